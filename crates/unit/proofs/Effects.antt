-- What each call does to checkpoint and tip: a refused call leaves the head, an accepted clear, load or restart makes them equal, and
-- any other accepted call moves them by the steps that it counts.
-- Assumes nothing.
use mathlib.Core.Path.{◌≡◌, refl}
use mathlib.Core.Bool.{Bool, true, false}
use mathlib.Core.List.{List}
use Prim.Native.Nat.{ℕ, ◌+◌, ◌-◌, ◌≤◌}
use native.Mathlib.Omega.{arith}
use lib.ListN.{length}
use Rattle.answers.specs.Check.{Answered}
use Rattle.answers.specs.Check.{Check}
use Rattle.std.proofs.Common.{Ok, Err}
use Rattle.answers.specs.declared.call.Call.{Call}
use Rattle.answers.specs.declared.call.Call.TheVariants.{Reset, Step, Read, Ask}
use Rattle.answers.specs.declared.call.Read.{Read as ReadCall}
use Rattle.answers.specs.declared.call.Read.TheVariants.{Issue, Forward, Release}
use Rattle.answers.specs.declared.call.Reset.{Reset as ResetCall}
use Rattle.answers.specs.declared.call.Reset.TheVariants.{Clear, Load, Restart}
use Rattle.answers.specs.declared.call.Step.{Step as StepCall}
use Rattle.answers.specs.declared.call.Step.TheVariants.{Commit, RollBack, Flush}
use Rattle.answers.specs.declared.tally.Tally.{Tally}
use Rattle.answers.specs.Answers.{is_accepted, answered}
use Rattle.answers.specs.First.{first, if_passed}
use Rattle.answers.specs.Counts.{resets, counts, step_counts, counts_of}
use Rattle.image.specs.Image.{count_in, number_in}
use Rattle.formats.specs.Formats.{map_in}
use Rattle.layout.specs.declared.head.Head.{Head}
use Rattle.layout.specs.States.{held_of, map_here}
use Rattle.views.specs.Trim.{trimmed_head}
use Rattle.slots.specs.Slots.{opened, closed_at}
use Rattle.snapshot.specs.Fresh.{fresh_head}
use Rattle.commits.specs.Commit.{used_of, with_step}
use Rattle.flushes.specs.Flush.{flushed_head}
use Rattle.flushes.proofs.Flushing.{flush_ok}
use Rattle.restarts.specs.Restart.{restart_image}
use Rattle.rollbacks.specs.RollBack.{kept_of, cut_to}
use Rattle.rollbacks.proofs.RollBackAccepted.{roll_ok}
use Rattle.calls.specs.Lent.{Lent, with_words, with_bytes, Left, Meaning, check_of, settled_by, settled}
use Rattle.calls.specs.Meaning.{reset_of, step_of, read_call_of, query_of, performed}

-- from one head to another by so many steps committed, rolled back and flushed
pub record Moves (count : Tally) (from to : Head) : Type 0 where
  pub order : to.checkpoint ≤ to.tip
  pub steps : count.committed + (from.tip - from.checkpoint) ≡ count.rolled_back + count.flushed + (to.tip - to.checkpoint)

pub data Effect (accepted resets_lem : Bool) (count : Tally) (from to : Head) : Type 0 where
  turned : accepted ≡ false → to ≡ from → Effect accepted resets_lem count from to
  began : accepted ≡ true → resets_lem ≡ true → to.tip ≡ to.checkpoint → Effect accepted resets_lem count from to
  moved : accepted ≡ true → resets_lem ≡ false → (from.checkpoint ≤ from.tip → Moves count from to)
      → Effect accepted resets_lem count from to

-- by its check, a call that makes the store anew, and one that moves the head
module _ (l : Lent) (count : Tally) where
  begins_by : (c : Check) (made : Left) → is_accepted made.answer ≡ true → made.lent.head.tip ≡ made.lent.head.checkpoint
      → Effect (is_accepted (answered c made.answer)) true count l.head (if_passed c made.lent l).head
  begins_by (Ok tt) made y e = began y refl e
  begins_by (Err r) made y e = turned refl refl

  begins : (m : Meaning) → is_accepted m.accepted.answer ≡ true → m.accepted.lent.head.tip ≡ m.accepted.lent.head.checkpoint
      → Effect (is_accepted (settled m l).answer) true count l.head (settled m l).lent.head
  begins m = begins_by (check_of m) m.accepted

  goes_by : (c : Check) (made : Left) → is_accepted made.answer ≡ true
      → (c ≡ (Ok tt) → l.head.checkpoint ≤ l.head.tip → Moves count l.head made.lent.head)
      → Effect (is_accepted (answered c made.answer)) false count l.head (if_passed c made.lent l).head
  goes_by (Ok tt) made y f = moved y refl (f refl)
  goes_by (Err r) made y f = turned refl refl

  goes : (m : Meaning) → is_accepted m.accepted.answer ≡ true
      → (check_of m ≡ (Ok tt) → l.head.checkpoint ≤ l.head.tip → Moves count l.head m.accepted.lent.head)
      → Effect (is_accepted (settled m l).answer) false count l.head (settled m l).lent.head
  goes m = goes_by (check_of m) m.accepted

still : (accepted : Bool) (head : Head) → Effect accepted false (counts 0 0 0) head head
still true head = moved refl refl (λ h. record { order = h; steps = refl })
still false head = turned refl refl

stays : (l : Lent) (c : Check) (answer : Answered) (words bytes : List ℕ)
    → let left = settled_by c (record { answer = answer; lent = with_bytes (with_words l words) bytes }) l in
    Effect (is_accepted left.answer) false (counts 0 0 0) l.head left.lent.head
stays l (Ok tt) answer words bytes = still (is_accepted answer) l.head
stays l (Err r) answer words bytes = still false l.head

-- the heads that accepted calls leave
fresh_one : (used number depth : ℕ) → (fresh_head used number depth).tip ≡ (fresh_head used number depth).checkpoint
unfolding fresh_head
fresh_one used number depth = refl

step_added : (head : Head) (held end : ℕ) → head.checkpoint ≤ head.tip → Moves (counts 1 0 0) head (with_step head held end)
unfolding with_step
step_added head held end h = record { order = omega arith; steps = omega arith }

rolled : (head : Head) (kept state : ℕ) → head.checkpoint ≤ state → state ≤ head.tip
    → Moves (counts 0 (head.tip - state) 0) head (cut_to head kept state)
unfolding cut_to
rolled head kept state low high = record { order = low; steps = omega arith }

flushed : (head : Head) (used state : ℕ) → head.checkpoint ≤ state → state ≤ head.tip
    → Moves (counts 0 0 (state - head.checkpoint)) head (trimmed_head (flushed_head head used state))
unfolding flushed_head trimmed_head
flushed head used state low high = record { order = high; steps = omega arith }

opens : (head : Head) (slot : ℕ) → head.checkpoint ≤ head.tip → Moves (counts 0 0 0) head (opened head slot)
unfolding opened
opens head slot h = record { order = h; steps = refl }

closes : (head : Head) (slot : ℕ) → head.checkpoint ≤ head.tip → Moves (counts 0 0 0) head (trimmed_head (closed_at head slot))
unfolding closed_at trimmed_head
closes head slot h = record { order = h; steps = refl }

-- what each call does, by groups
resets_lem : (l : Lent) (call : ResetCall) (count : Tally)
    → let left = settled (reset_of l call) l in
    Effect (is_accepted left.answer) true count l.head left.lent.head
resets_lem l (Clear depth) count = begins l count (reset_of l (Clear depth)) refl (fresh_one 0 0 depth)
resets_lem l (Load depth format) count =
    begins l count (reset_of l (Load depth format)) refl (fresh_one (length (map_in format l.bytes)) (number_in l.bytes) depth)
resets_lem l Restart count =
    let image = restart_image l.table l.journal l.head in
    begins l count (reset_of l Restart) refl (fresh_one (count_in image) (number_in image) l.head.depth)

steps : (l : Lent) (call : StepCall)
    → let left = settled (step_of l call) l in
    Effect (is_accepted left.answer) false (step_counts l.head.checkpoint l.head.tip call) l.head left.lent.head
steps l Commit = goes l _ (step_of l Commit) refl (λ e h. step_added l.head (held_of l.head) (used_of l.head + length l.words) h)
steps l (RollBack state) =
    goes l _ (step_of l (RollBack state)) refl
    (λ e h. let ok = roll_ok l.table l.journal l.head state e in rolled l.head (kept_of l.head state)
    state ok.low ok.high)
steps l (Flush state) =
    let used = length (map_here l.table l.journal l.head state) in
    goes l _ (step_of l (Flush state)) refl
    (λ e h. let ok = flush_ok l.table l.journal l.head state e in flushed l.head used state ok.low ok.high)

reads : (l : Lent) (call : ReadCall)
    → let left = settled (read_call_of l call) l in
    Effect (is_accepted left.answer) false (counts 0 0 0) l.head left.lent.head
reads l (Issue reader) = goes l _ (read_call_of l (Issue reader)) refl (λ e h. opens l.head reader.slot h)
reads l (Forward reader state) = goes l _ (read_call_of l (Forward reader state)) refl (λ e h. closes l.head reader.slot h)
reads l (Release reader) = goes l _ (read_call_of l (Release reader)) refl (λ e h. closes l.head reader.slot h)

pub effect : (l : Lent) (call : Call)
    → let left = performed l call in
    Effect (is_accepted left.answer) (resets call) (counts_of l.head.checkpoint l.head.tip call) l.head left.lent.head
effect l (Reset call) = resets_lem l call (counts 0 0 0)
effect l (Step call) = steps l call
effect l (Read call) = reads l call
effect l (Ask query) =
    let a = query_of l query in
    stays l (first a.grounds) a.answer a.words a.bytes
