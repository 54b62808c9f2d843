-- The tally, of condition 2: "The tally line is lent by the caller and updated by the call; a count stops at its largest value. Clear, load
-- and restart set it to zero. After any calls since then, each lent the tally, memory and head as the call before left them, with no
-- count at its largest, committed = rolled back + flushed + (tip − anchor), each defined from the accepted calls."
-- Assumes nothing.
use Rattle.std.specs.Prelude.{◌≡◌, true, List, [], ◌∷◌, ℕ, ◌+◌, ◌-◌, min, get_or}
use Rattle.answers.specs.declared.call.Call.TheVariants.{Reset, Step, Read, Ask}
use Rattle.answers.specs.declared.call.Query.{Query}
use Rattle.answers.specs.declared.call.Read.{Read as ReadCall}
use Rattle.answers.specs.declared.call.Reset.{Reset as ResetCall}
use Rattle.answers.specs.declared.call.Step.TheVariants.{Commit, RollBack, Flush}
use Rattle.answers.specs.declared.tally.Tally.{Tally}
use Rattle.answers.specs.Answers.{is_accepted}
use Rattle.answers.specs.Counts.{largest, counts}
use Rattle.unit.specs.Carried.{Carried, Asked, committed_by, rolled_back_by, flushed_by}
use Rattle.lent.specs.Lent.{tally_of}
use Rattle.conditions.specs.CCalls.{Memory, Result, memory_after, CallOfC, carried_in}
use Rattle.conditions.specs.Runs.{Turn, lending, asked_in, Run, end_of}
use Rattle.conditions.specs.Serving.{Seen, CallOfServe, handed, Of64Bits}

-- a tally with so many steps more, where "a count stops at its largest value"
abbrev pub added : Tally → ℕ → ℕ → ℕ → Tally
added t committed rolledBack flushed =
    counts
    (min (t.committed + committed) largest)
    (min (t.rolled_back + rolledBack) largest)
    (min (t.flushed + flushed) largest)

-- "with no count at its largest"
pub record NoneAtLargest (t : Tally) : Type 0 where
  pub committed : t.committed ≡ largest → ⊥
  pub rolled_back : t.rolled_back ≡ largest → ⊥
  pub flushed : t.flushed ≡ largest → ⊥

-- "Clear, load and restart set it to zero": a call of these that is accepted
pub record SetsToZero (k : Carried) (s : Seen) : Type 0 where
  pub call : ResetCall
  pub words : List ℕ
  pub bytes : List ℕ
  pub serves : CallOfServe k (lending (Reset call) words bytes) s
  pub accepted : is_accepted s.reply.answer ≡ true

-- the same of a C function
pub record SetsToZeroC (m : Memory) (r : Result) : Type 0 where
  pub call : ResetCall
  pub words : List ℕ
  pub bytes : List ℕ
  pub serves : CallOfC m (lending (Reset call) words bytes) r
  pub accepted : r.code ≡ 0

pub record Tallies : Type 0 where
  -- what an accepted call adds to each count: a commit one step,
  pub commit_adds : (k : Carried) (words bytes : List ℕ) (s : Seen)
      → CallOfServe k (lending (Step Commit) words bytes) s → is_accepted s.reply.answer ≡ true → s.tally ≡ added k.tally 1 0 0
  -- a rollback the steps above its state, a flush those from the checkpoint to its state,
  pub rollback_adds : (k : Carried) (state : ℕ) (words bytes : List ℕ) (s : Seen)
      → CallOfServe k (lending (Step (RollBack state)) words bytes) s → is_accepted s.reply.answer ≡ true
      → s.tally ≡ added k.tally 0 (k.head.tip - state) 0
  pub flush_adds : (k : Carried) (state : ℕ) (words bytes : List ℕ) (s : Seen)
      → CallOfServe k (lending (Step (Flush state)) words bytes) s → is_accepted s.reply.answer ≡ true
      → s.tally ≡ added k.tally 0 0 (state - k.head.checkpoint)
  -- and a read's call or a query none, refused or not; counts are of 64 bits by their type
  pub reads_keep : (k : Carried) (call : ReadCall) (words bytes : List ℕ) (s : Seen)
      → Of64Bits k.tally → CallOfServe k (lending (Read call) words bytes) s → s.tally ≡ k.tally
  pub queries_keep : (k : Carried) (query : Query) (words bytes : List ℕ) (s : Seen)
      → Of64Bits k.tally → CallOfServe k (lending (Ask query) words bytes) s → s.tally ≡ k.tally
  -- "Clear, load and restart set it to zero"
  pub set_to_zero : (k : Carried) (s : Seen) → SetsToZero k s → s.tally ≡ counts 0 0 0
  -- "each defined from the accepted calls": each count is the sum over them (unit/specs/Carried.antt), and stops at its largest value
  pub counts_are_sums : (k : Carried) (s : Seen) → SetsToZero k s → (turns : List (Turn Asked Seen))
      → Run CallOfServe handed (handed s) turns
      → (end_of CallOfServe handed (handed s) turns).tally
      ≡ counts
      (min (committed_by (handed s) (asked_in turns)) largest)
      (min (rolled_back_by (handed s) (asked_in turns)) largest)
      (min (flushed_by (handed s) (asked_in turns)) largest)
  -- "committed = rolled back + flushed + (tip − anchor)"
  pub balances : (k : Carried) (s : Seen) → SetsToZero k s → (turns : List (Turn Asked Seen)) → Run CallOfServe handed (handed s) turns
      → let end = end_of CallOfServe handed (handed s) turns in
      NoneAtLargest end.tally
      → end.tally.committed ≡ end.tally.rolled_back + end.tally.flushed + (end.head.tip - end.head.checkpoint)
  -- the same over runs of the C functions, of the words of tally and head: 0 committed, 1 rolled back, 2 flushed; 3 the tip, 2 the
  -- checkpoint
  pub c_counts_are_sums : (m : Memory) (r : Result) → SetsToZeroC m r → (turns : List (Turn Asked Result))
      → Run CallOfC memory_after r.memory turns
      → let start = carried_in r.memory in
      let asked = asked_in turns in
      (end_of CallOfC memory_after r.memory turns).tally
      ≡ (min (committed_by start asked) largest ∷ min (rolled_back_by start asked) largest ∷ min (flushed_by start asked) largest ∷ [])
  pub c_balances : (m : Memory) (r : Result) → SetsToZeroC m r → (turns : List (Turn Asked Result))
      → Run CallOfC memory_after r.memory turns
      → let end = end_of CallOfC memory_after r.memory turns in
      NoneAtLargest (tally_of end.tally)
      → get_or end.tally 0 0 ≡ get_or end.tally 1 0 + get_or end.tally 2 0 + (get_or end.head 3 0 - get_or end.head 2 0)
