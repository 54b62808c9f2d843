-- The last change of an offer, sought from the newest step back.
-- Assumes nothing.
use mathlib.Core.Path.{◌≡◌, refl, sym, ap, ap₂, subst, ◌∙◌}
use mathlib.Core.List.{List, [], ◌∷◌, ◌++◌}
use Prim.Native.Nat.{ℕ, zero, suc, ◌+◌, ◌-◌, ◌≤◌, ◌<◌}
use native.Mathlib.Omega.{arith}
use lib.ListN.{length, take, drop}
use Rattle.changes.specs.Found.{Found}
use Rattle.std.proofs.Common.{Some, None}
use Rattle.changes.specs.Calculus.{find, or_else, compose_all}
use Rattle.changes.specs.Lists.{From}
use Rattle.changes.specs.Runs.{start_of, step_of, run_of, Marked}
use Rattle.changes.proofs.Applying.{compose_all-nil, compose_all-cons}
use Rattle.changes.proofs.Find.{find_empty}
use Rattle.changes.proofs.Laws.{later_wins, steps_split}
use Rattle.changes.proofs.Rising.{compose_rises, From-nil}
use Rattle.changes.proofs.Running.{run_none, run_one, Marked-fewer}
use Rattle.views.proofs.Laid.{run_count}
use Rattle.lists.proofs.Halving.{finds}
use Rattle.lists.specs.Searches.{Finds}
use Rattle.last_changes.specs.Last.{Last}
use Rattle.last_changes.specs.Last.{onward, last_in, word_in, said_by_last, LastIs}
use Rattle.last_changes.specs.Steps.{Rising}

-- a step as a part of the journal
pub step_part : (words ends : List ℕ) (k a b : ℕ) → a ≡ start_of ends k → b ≡ start_of ends (k + 1)
    → take (b - a) (drop a words) ≡ step_of words ends k
step_part words ends k a b ea eb = ap₂ (λ (x y : ℕ). take (y - x) (drop x words)) ea eb

-- the composition of steps that rise rises
pub run_rises : (words ends : List ℕ) (n i : ℕ) → ((k : ℕ) → i ≤ k → k < i + n → From 0 (step_of words ends k))
    → From 0 (compose_all (run_of words ends i n))
unfolding run_of
run_rises words ends zero i h = subst (From 0) (sym compose_all-nil) (From-nil 0)
run_rises words ends (suc n) i h =
    subst (From 0) (sym (compose_all-cons (step_of words ends i) (run_of words ends (i + 1) n)))
    (compose_rises (step_of words ends i) (compose_all (run_of words ends (i + 1) n)) 0 (h i (omega arith) (omega arith))
    (run_rises words ends n (i + 1) (λ k a b. h k (omega arith) (omega arith))))

pub between_rises : {words ends : List ℕ} {from to : ℕ} → Rising words ends from to
    → From 0 (compose_all (run_of words ends from (to - from)))
between_rises {words} {ends} {from} {to} r = run_rises words ends (to - from) from (λ k a b. r.rises k a (omega (arith, r.order)))

-- the last of some steps with one more behind them: in that step, or else in those before it
last_here : (offer : ℕ) (ds : List (List ℕ)) (d : List ℕ) (w : ℕ) → find offer d ≡ Some w
    → last_in offer (ds ++ (d ∷ [])) ≡ Some (w, suc (length ds))
unfolding last_in
last_here offer [] d w e = ap (onward None) e
last_here offer (c ∷ ds) d w e = ap (λ (l : Last). onward l (find offer c)) (last_here offer ds d w e)

last_before : (offer : ℕ) (ds : List (List ℕ)) (d : List ℕ) → find offer d ≡ None
    → last_in offer (ds ++ (d ∷ [])) ≡ last_in offer ds
unfolding last_in
last_before offer [] d e = ap (onward None) e
last_before offer (c ∷ ds) d e = ap (λ (l : Last). onward l (find offer c)) (last_before offer ds d e)

none_in : (offer : ℕ) → last_in offer [] ≡ None
unfolding last_in
none_in offer = refl

-- its word is the composition's
word_onward : (l : Last) (f : Found) → word_in (onward l f) ≡ or_else (word_in l) f
word_onward (Some (w, n)) f = refl
word_onward None (Some w) = refl
word_onward None None = refl

last_word : (words ends : List ℕ) (offer n i : ℕ) → ((k : ℕ) → i ≤ k → k < i + n → From 0 (step_of words ends k))
    → word_in (last_in offer (run_of words ends i n)) ≡ find offer (compose_all (run_of words ends i n))
unfolding run_of last_in
last_word words ends offer zero i h = sym (ap (find offer) compose_all-nil ∙ find_empty offer)
last_word words ends offer (suc n) i h =
    let rest = run_of words ends (i + 1) n in
    let rises : (k : ℕ) → i + 1 ≤ k → k < i + 1 + n → From 0 (step_of words ends k) = λ k a b. h k (omega arith) (omega arith) in
    word_onward (last_in offer rest) (find offer (step_of words ends i))
    ∙ ap (λ (f : Found). or_else f (find offer (step_of words ends i))) (last_word words ends offer n (i + 1) rises)
    ∙ sym (later_wins offer (step_of words ends i) (compose_all rest) (run_rises words ends n (i + 1) rises))
    ∙ ap (find offer) (sym (compose_all-cons (step_of words ends i) rest))

-- a last change that is the one meant keeps the whole promise
pub last_is : {words ends : List ℕ} {from to : ℕ} → Rising words ends from to → (offer : ℕ) {r : Last}
    → r ≡ last_in offer (run_of words ends from (to - from))
    → Finds (word_in r) (find offer (compose_all (run_of words ends from (to - from))))
    × LastIs r (last_in offer (run_of words ends from (to - from)))
last_is {words} {ends} {from} {to} s offer e = (
  finds (ap word_in e ∙ last_word words ends offer (to - from) from (λ k a b. s.rises k a (omega (arith, s.order)))),
  (e, ap said_by_last e),
)

-- the steps from k on have no word at the offer
pub record Seeking (words ends : List ℕ) (from to offer k : ℕ) : Type 0 where
  pub rising : Rising words ends from to
  pub low : from ≤ k
  pub high : k ≤ to
  pub left : last_in offer (run_of words ends from (k - from)) ≡ last_in offer (run_of words ends from (to - from))

pub seeking : {words ends : List ℕ} {from to : ℕ} → Rising words ends from to → (offer : ℕ) → Seeking words ends from to offer to
seeking r offer = record { rising = r; low = r.order; high = omega arith; left = refl }

module _ {words ends : List ℕ} {from to offer k : ℕ} (s : Seeking words ends from to offer k) where
  pub sought : k ≤ from → None ≡ last_in offer (run_of words ends from (to - from))
  sought h =
      let none : k - from ≡ 0 = omega arith in
      sym (none_in offer)
      ∙ ap (last_in offer) (sym (run_none words ends from))
      ∙ ap (λ (n : ℕ). last_in offer (run_of words ends from n)) (sym none)
      ∙ s.left

  module _ (h : from < k) where
    pub newest_Marked : Marked words ends (k - 1 + 1)
    newest_Marked = Marked-fewer s.rising.marked (k - 1 + 1) (omega (arith, s.high))

    pub newest_rises : From 0 (step_of words ends (k - 1))
    newest_rises = s.rising.rises (k - 1) (omega arith) (omega (arith, s.high))

    newest : run_of words ends from (k - from) ≡ run_of words ends from (k - 1 - from) ++ (step_of words ends (k - 1) ∷ [])
    newest =
        let count : k - from ≡ (k - 1 - from) + 1 = omega arith in
        let place : from + (k - 1 - from) ≡ k - 1 = omega arith in
        ap (run_of words ends from) count
        ∙ steps_split words ends (k - 1 - from) 1 from
        ∙ ap (λ (ds : List (List ℕ)). run_of words ends from (k - 1 - from) ++ ds)
        (ap (λ (n : ℕ). run_of words ends n 1) place ∙ run_one words ends (k - 1))

    module _ (f : Found) (e : f ≡ find offer (step_of words ends (k - 1))) where
      pub found_there : (w : ℕ) → f ≡ Some w → Some (w, k - from) ≡ last_in offer (run_of words ends from (to - from))
      found_there w i =
          let before = run_of words ends from (k - 1 - from) in
          let count : k - from ≡ suc (length before) = omega (arith, run_count words ends (k - 1 - from) from) in
          ap (λ (n : ℕ). Some (w, n)) count
          ∙ sym (last_here offer before (step_of words ends (k - 1)) w (sym e ∙ i))
          ∙ ap (last_in offer) (sym newest)
          ∙ s.left

      pub not_there : f ≡ None → Seeking words ends from to offer (k - 1)
      not_there i =
          let before = run_of words ends from (k - 1 - from) in
          record {
            rising = s.rising;
            low = omega arith;
            high = omega (arith, s.high);
            left =
                sym (last_before offer before (step_of words ends (k - 1)) (sym e ∙ i))
                ∙ ap (last_in offer) (sym newest)
                ∙ s.left;
          }
