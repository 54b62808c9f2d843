-- What is carried from call to call of `serve`: "each lent the tally, memory and head as the call before left them", and the counts,
-- "each defined from the accepted calls".
-- Assumes nothing.
use Rattle.std.specs.Prelude.{Bool, ◌&&◌, cond, List, [], ◌∷◌, ℕ, ◌+◌}
use Rattle.layout.specs.declared.head.Head.{Head}
use Rattle.answers.specs.declared.call.Call.{Call}
use Rattle.answers.specs.declared.tally.Tally.{Tally}
use Rattle.answers.specs.Answers.{is_accepted}
use Rattle.answers.specs.Counts.{resets, counts_of}
use Rattle.calls.specs.Lent.{Lent, lent}
use Rattle.calls.specs.Meaning.{performed}
use Rattle.unit.specs.Serve.{tally_on}

-- what the caller hands from one call to the next
pub record Carried : Type 0 where
  pub tally : Tally
  pub table : List ℕ
  pub journal : List ℕ
  pub head : Head

-- a call, with the words and bytes that are lent to it alone
pub record Asked : Type 0 where
  pub call : Call
  pub words : List ℕ
  pub bytes : List ℕ

-- what is lent to it
abbrev pub lent_to : Carried → Asked → Lent
lent_to k a = lent k.table k.journal a.words a.bytes k.head

abbrev pub accepts : Carried → Asked → Bool
accepts k a = is_accepted (performed (lent_to k a) a.call).answer

-- what one call leaves, as the contract of `serve` has it
unfoldable pub next : Carried → Asked → Carried
next k a =
    let left = (performed (lent_to k a) a.call).lent in
    record { tally = tally_on k.tally (lent_to k a) a.call; table = left.table; journal = left.journal; head = left.head }

-- and what a list of calls leaves
unfoldable pub after : Carried → List Asked → Carried
after k [] = k
after k (a ∷ asked) = after (next k a) asked

-- "Clear, load and restart set it to zero": an accepted one of these
abbrev pub sets_to_zero : Carried → Asked → Bool
sets_to_zero k a = accepts k a && resets a.call

-- an accepted call, and the head that it was made with
pub record Accepted : Type 0 where
  pub head : Head
  pub call : Call

-- the accepted calls since the last one that set the tally to zero, newest first: those before a call, and with it
unfoldable pub noted : List Accepted → Carried → Asked → List Accepted
noted calls k a = cond (accepts k a) (cond (resets a.call) [] (record { head = k.head; call = a.call } ∷ calls)) calls

-- and with a list of calls
unfoldable pub noted_all : List Accepted → Carried → List Asked → List Accepted
noted_all calls k [] = calls
noted_all calls k (a ∷ asked) = noted_all (noted calls k a) (next k a) asked

-- the steps that calls committed, rolled back and flushed, with no stop at any value
unfoldable pub sum_of : (Tally → ℕ) → List Accepted → ℕ
sum_of count [] = 0
sum_of count (c ∷ calls) = count (counts_of c.head.checkpoint c.head.tip c.call) + sum_of count calls

-- the same of a list of calls that follows one that set the tally to zero; one of the list that sets it to zero starts the sums anew
abbrev pub committed_by : Carried → List Asked → ℕ
committed_by k asked = sum_of (λ (t : Tally). t.committed) (noted_all [] k asked)

abbrev pub rolled_back_by : Carried → List Asked → ℕ
rolled_back_by k asked = sum_of (λ (t : Tally). t.rolled_back) (noted_all [] k asked)

abbrev pub flushed_by : Carried → List Asked → ℕ
flushed_by k asked = sum_of (λ (t : Tally). t.flushed) (noted_all [] k asked)
