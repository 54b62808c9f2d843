-- Words that are all below a number stay so where one is set, and in parts, joined lists, zeros and words that are made less.
-- Assumes nothing.
use mathlib.Core.Path.{◌≡◌, refl}
use mathlib.Core.Bool.{true}
use mathlib.Core.List.{List, [], ◌∷◌, ◌++◌, map}
use Prim.Native.Nat.{ℕ, zero, suc, ◌-◌, ◌<◌}
use native.Mathlib.Omega.{arith}
use borrow.Author.Tests.{ltb-true}
use lib.Dec.{ltb}
use lib.ListN.{take, drop, set, replicate}
use Rattle.changes.proofs.ListTest.{and_both}
use Rattle.head_words.proofs.Below.{below_on}
use Rattle.head_words.specs.HeadWords.{are_below}

module _ (bound : ℕ) where
  module _ (w : ℕ) (l : List ℕ) (e : are_below bound (w ∷ l) ≡ true) where
    pub below_first : w < bound
    unfolding are_below
    below_first = ltb-true w bound (and_both (ltb w bound) (are_below bound l) e).0

    pub below_rest : are_below bound l ≡ true
    unfolding are_below
    below_rest = (and_both (ltb w bound) (are_below bound l) e).1

  pub below_both : (w : ℕ) (l : List ℕ) → w < bound → are_below bound l ≡ true → are_below bound (w ∷ l) ≡ true
  below_both w l h e = rw (below_on bound w l h) e

  pub below_set : (l : List ℕ) (i v : ℕ) → are_below bound l ≡ true → v < bound → are_below bound (set l i v) ≡ true
  below_set [] i v e h = e
  below_set (w ∷ l) zero v e h = below_both v l h (below_rest w l e)
  below_set (w ∷ l) (suc i) v e h = below_both w (set l i v) (below_first w l e) (below_set l i v (below_rest w l e) h)

  pub below_take : (n : ℕ) (l : List ℕ) → are_below bound l ≡ true → are_below bound (take n l) ≡ true
  unfolding are_below
  below_take zero l e = refl
  below_take (suc n) [] e = refl
  below_take (suc n) (w ∷ l) e = below_both w (take n l) (below_first w l e) (below_take n l (below_rest w l e))

  pub below_drop : (n : ℕ) (l : List ℕ) → are_below bound l ≡ true → are_below bound (drop n l) ≡ true
  below_drop zero l e = e
  below_drop (suc n) [] e = e
  below_drop (suc n) (w ∷ l) e = below_drop n l (below_rest w l e)

  pub below_append : (l r : List ℕ) → are_below bound l ≡ true → are_below bound r ≡ true → are_below bound (l ++ r) ≡ true
  below_append [] r e f = f
  below_append (w ∷ l) r e f = below_both w (l ++ r) (below_first w l e) (below_append l r (below_rest w l e) f)

  pub below_zeros : (n : ℕ) → 0 < bound → are_below bound (replicate n 0) ≡ true
  unfolding are_below
  below_zeros zero h = refl
  below_zeros (suc n) h = below_both 0 (replicate n 0) h (below_zeros n h)

  pub below_less : (n : ℕ) (l : List ℕ) → are_below bound l ≡ true → are_below bound (map (λ w. w - n) l) ≡ true
  unfolding are_below
  below_less n [] e = refl
  below_less n (w ∷ l) e =
      below_both (w - n) (map (λ w. w - n) l) (omega (arith, below_first w l e)) (below_less n l (below_rest w l e))
