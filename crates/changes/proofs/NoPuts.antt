-- Words without one of kind 1, as a loop meets them and as facts.
-- Assumes nothing.
use mathlib.Core.Path.{◌≡◌, refl, ap, ◌∙◌}
use mathlib.Core.Bool.{true, false, not}
use mathlib.Core.List.{List, [], ◌∷◌}
use Prim.Native.Nat.{ℕ, ◌+◌, ◌≤◌, ◌<◌}
use native.Mathlib.Omega.{arith}
use borrow.Author.Tests.{eq-eqb, ne_eqb, not-true, eqb-false}
use lib.ListN.{length, get_or, drop, drop_of_length-le}
use Rattle.entry.specs.Word.{kind_of, offer_of, none_of, is_put, Put, Valid}
use Rattle.entry.proofs.Laws.{none_word}
use Rattle.changes.specs.Lists.{has_no_put, All}
use Rattle.changes.proofs.ListTest.{and_both}
use Rattle.words.proofs.Parts.{next}

no_puts_empty : has_no_put [] ≡ true
unfolding has_no_put
no_puts_empty = refl

module _ (w : ℕ) (l : List ℕ) where
  no_puts_stop : Put w → has_no_put (w ∷ l) ≡ false
  unfolding has_no_put
  no_puts_stop p = rw (eq-eqb (kind_of w) 1 p)

  no_puts_next : (Put w → ⊥) → has_no_put (w ∷ l) ≡ has_no_put l
  unfolding has_no_put
  no_puts_next n = rw (ne_eqb (kind_of w) 1 n)

module _ (l : List ℕ) (i : ℕ) where
  pub at_end : length l ≤ i → has_no_put (drop i l) ≡ true
  at_end h = ap has_no_put (drop_of_length-le l h) ∙ no_puts_empty

  module _ (h : i < length l) where
    pub at_stop : Put (get_or l i 0) → has_no_put (drop i l) ≡ false
    at_stop p = ap has_no_put (next l i h) ∙ no_puts_stop (get_or l i 0) (drop (i + 1) l) p

    pub at_next : (Put (get_or l i 0) → ⊥) → has_no_put (drop i l) ≡ has_no_put (drop (i + 1) l)
    at_next n = ap has_no_put (next l i h) ∙ no_puts_next (get_or l i 0) (drop (i + 1) l) n

-- valid words without one of kind 1 show no price
pub show_none : (l : List ℕ) → All Valid l → has_no_put l ≡ true → All (λ w. w ≡ none_of (offer_of w)) l
unfolding All has_no_put
show_none [] v e = tt
show_none (w ∷ l) v e =
    let both = and_both (not (is_put w)) (has_no_put l) e in
    let other : kind_of w ≡ 1 → ⊥ = eqb-false (kind_of w) 1 (not-true _ both.0) in
    let kind : kind_of w ≡ 0 = omega (arith, v.0.0) in
    (none_word w kind (v.0.1 kind), show_none l v.1 both.1)
