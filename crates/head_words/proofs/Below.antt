-- The test that each word is below a power of two, as a loop meets it that joins the words by `or`.
-- Assumes nothing.
use mathlib.Core.Path.{◌≡◌, refl, sym, ap, ◌∙◌}
use mathlib.Core.Bool.{Bool, true, false, ◌&&◌, and-true, and_assoc}
use mathlib.Core.List.{List, [], ◌∷◌}
use Prim.Native.Nat.{ℕ, ◌^◌, ◌<◌}
use native.Mathlib.Omega.{arith}
use borrow.Author.Tests.{ltb-true, ltb-false, lt-ltb, le-ltb}
use lib.Bits.{bit_or, or_lt, or_add_and, and_le_l, and_le_r}
use lib.Dec.{ltb}
use lib.Pow.{pow_pos}
use Rattle.std.specs.List.{FoldsTo}
use Rattle.head_words.specs.HeadWords.{are_below}

module _ (bound w : ℕ) (l : List ℕ) where
  pub below_on : w < bound → are_below bound (w ∷ l) ≡ are_below bound l
  unfolding are_below
  below_on h = rw (lt-ltb w bound h)

pub below_none : (bound : ℕ) → are_below bound [] ≡ true
unfolding are_below
below_none bound = refl

-- two words joined by `or` are below a power of two when both are
or_below : (k a b : ℕ) → ltb (bit_or a b) (2 ^ k) ≡ ltb a (2 ^ k) && ltb b (2 ^ k)
or_below k a b = go (ltb a (2 ^ k)) (ltb b (2 ^ k)) refl refl
  where
    go : (s t : Bool) → ltb a (2 ^ k) ≡ s → ltb b (2 ^ k) ≡ t → ltb (bit_or a b) (2 ^ k) ≡ s && t
    go true true p q = lt-ltb (bit_or a b) (2 ^ k) (or_lt k a b (ltb-true a (2 ^ k) p) (ltb-true b (2 ^ k) q))
    go true false p q = le-ltb (bit_or a b) (2 ^ k) (omega (arith, ltb-false b (2 ^ k) q, or_add_and a b, and_le_l a b))
    go false t p q = le-ltb (bit_or a b) (2 ^ k) (omega (arith, ltb-false a (2 ^ k) p, or_add_and a b, and_le_r a b))

-- words that are joined are below a power of two when each of them is
joined_from : (k : ℕ) (l : List ℕ) (seen r : ℕ) → FoldsTo (λ x y z. z ≡ bit_or x y) seen l r
    → ltb r (2 ^ k) ≡ ltb seen (2 ^ k) && are_below (2 ^ k) l
unfolding are_below
joined_from k [] seen r e = ap (λ n. ltb n (2 ^ k)) (sym e) ∙ sym (and-true (ltb seen (2 ^ k)))
joined_from k (w ∷ l) seen r h =
    joined_from k l h.0 r h.2
    ∙ ap (λ n. ltb n (2 ^ k) && are_below (2 ^ k) l) h.1
    ∙ ap (λ b. b && are_below (2 ^ k) l) (or_below k seen w)
    ∙ and_assoc (ltb seen (2 ^ k)) (ltb w (2 ^ k)) (are_below (2 ^ k) l)

pub below_joined : (k r : ℕ) (l : List ℕ) → (first : ℕ) × (first ≡ 0) × FoldsTo (λ x y z. z ≡ bit_or x y) first l r
    → ltb r (2 ^ k) ≡ are_below (2 ^ k) l
below_joined k r l h =
    joined_from k l h.0 r h.2
    ∙ ap (λ n. ltb n (2 ^ k) && are_below (2 ^ k) l) h.1
    ∙ ap (λ b. b && are_below (2 ^ k) l) (lt-ltb 0 (2 ^ k) (pow_pos k))
