-- A count after a call.
-- Assumes nothing.
use mathlib.Core.Path.{◌≡◌, refl, ap, ◌∙◌}
use mathlib.Core.Bool.{Bool, true, false, cond}
use Prim.Native.Nat.{ℕ, ◌+◌, ◌≤◌, min}
use native.Mathlib.Omega.{arith}
use Rattle.answers.specs.Check.{Answered}
use Rattle.answers.specs.declared.call.Call.{Call}
use Rattle.answers.specs.declared.tally.Tally.{Tally}
use Rattle.answers.specs.Answers.{is_accepted}
use Rattle.answers.specs.Counts.{largest, resets, counts, counts_of, count_after, tally_after}

module _ (answer : Answered) (call : Call) (count more : ℕ) where
  pub count_refused : is_accepted answer ≡ false → count_after answer call count more ≡ count
  count_refused e = rw e refl

  pub count_anew : is_accepted answer ≡ true → resets call ≡ true → count_after answer call count more ≡ 0
  count_anew e f = rw e (rw f refl)

  pub count_added : is_accepted answer ≡ true → resets call ≡ false → count_after answer call count more ≡ min (count + more) largest
  count_added e f = rw e (rw f refl)

-- a call that counts nothing leaves a count of 64 bits as it came
pub count_kept : (accepted anew : Bool) (count : ℕ) → anew ≡ false → count ≤ largest
    → cond accepted (cond anew 0 (min (count + 0) largest)) count ≡ count
count_kept false anew count e h = refl
count_kept true anew count e h = rw e (omega arith)

-- a tally from its counts, of which each is worked out by itself
pub tally_is : (tally : Tally) (checkpoint tip : ℕ) (call : Call) (answer : Answered) {more : Tally} {c r f : ℕ}
    → more ≡ counts_of checkpoint tip call
    → c ≡ count_after answer call tally.committed more.committed
    → r ≡ count_after answer call tally.rolled_back more.rolled_back
    → f ≡ count_after answer call tally.flushed more.flushed
    → counts c r f ≡ tally_after tally checkpoint tip call answer
tally_is tally checkpoint tip call answer e ec er ef i =
    counts
    ((ec ∙ ap (λ (t : Tally). count_after answer call tally.committed t.committed) e) i)
    ((er ∙ ap (λ (t : Tally). count_after answer call tally.rolled_back t.rolled_back) e) i)
    ((ef ∙ ap (λ (t : Tally). count_after answer call tally.flushed t.flushed) e) i)
