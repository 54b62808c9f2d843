-- The tests of words, clause by clause, as facts, and as a loop meets them.
-- Assumes nothing.
use mathlib.Core.Path.{◌≡◌, refl, sym, ap, ap₂, ◌∙◌}
use mathlib.Core.Bool.{Bool, true, false, ◌&&◌, and-true, and_assoc}
use mathlib.Core.List.{List, [], ◌∷◌}
use mathlib.Core.Logic.{◌⊎◌, inl, inr}
use Prim.Native.Nat.{ℕ, zero, suc, ◌-◌, min}
use native.Mathlib.Decide.{ℕ_discrete}
use native.Mathlib.Omega.{arith}
use borrow.Author.Tests.{eq-eqb, ne_eqb, eqb-true}
use lib.Bits.{bit_or, or_add_and, and_le_l, and_le_r}
use lib.Dec.{eqb}
use lib.ListN.{length, take, drop, replicate}
use Rattle.std.specs.List.{FoldsTo}
use Rattle.changes.proofs.ListTest.{and_both}
use Rattle.words.proofs.Parts.{part}
use Rattle.layout.specs.Tests.{are_zeros, least}

-- zeros
pub zeros_none : are_zeros [] ≡ true
unfolding are_zeros
zeros_none = refl

module _ (w : ℕ) (l : List ℕ) where
  pub zeros_on : w ≡ 0 → are_zeros (w ∷ l) ≡ are_zeros l
  unfolding are_zeros
  zeros_on e = rw (eq-eqb w 0 e)

pub zeros_fact : (l : List ℕ) → are_zeros l ≡ true → l ≡ replicate (length l) 0
unfolding are_zeros
zeros_fact [] e = refl
zeros_fact (w ∷ l) e =
    let both = and_both (eqb w 0) (are_zeros l) e in
    let first : w ≡ 0 = eqb-true w 0 both.0 in
    let rest : l ≡ replicate (length l) 0 = zeros_fact l both.1 in
    cc

pub fact_zeros : (n : ℕ) → are_zeros (replicate n 0) ≡ true
fact_zeros zero = zeros_none
fact_zeros (suc n) = zeros_on 0 (replicate n 0) refl ∙ fact_zeros n

-- words joined by `or` are zero when each of them is
or_zero : (a b : ℕ) → eqb (bit_or a b) 0 ≡ eqb a 0 && eqb b 0
or_zero a b = go (ℕ_discrete a 0) (ℕ_discrete b 0)
  where
    go : Dec (a ≡ 0) → Dec (b ≡ 0) → eqb (bit_or a b) 0 ≡ eqb a 0 && eqb b 0
    go (yes p) (yes q) =
        let none : bit_or a b ≡ 0 = ap₂ bit_or p q in
        rw (eq-eqb (bit_or a b) 0 none, eq-eqb a 0 p, eq-eqb b 0 q)
    go (yes p) (no q) =
        rw (ne_eqb (bit_or a b) 0 (λ e. q (omega (arith, or_add_and a b, and_le_l a b))), eq-eqb a 0 p, ne_eqb b 0 q)
    go (no p) q =
        rw (ne_eqb (bit_or a b) 0 (λ e. p (omega (arith, or_add_and a b, and_le_r a b))), ne_eqb a 0 p)

-- words that are joined are zero when each of them is
joined_from : (l : List ℕ) (seen r : ℕ) → FoldsTo (λ x y z. z ≡ bit_or x y) seen l r → eqb r 0 ≡ eqb seen 0 && are_zeros l
unfolding are_zeros
joined_from [] seen r e = ap (λ n. eqb n 0) (sym e) ∙ sym (and-true (eqb seen 0))
joined_from (w ∷ l) seen r h =
    joined_from l h.0 r h.2
    ∙ ap (λ n. eqb n 0 && are_zeros l) h.1
    ∙ ap (λ b. b && are_zeros l) (or_zero seen w)
    ∙ and_assoc (eqb seen 0) (eqb w 0) (are_zeros l)

pub zeros_joined : (r : ℕ) (l : List ℕ) → (first : ℕ) × (first ≡ 0) × FoldsTo (λ x y z. z ≡ bit_or x y) first l r → eqb r 0 ≡ are_zeros l
zeros_joined r l h = joined_from l h.0 r h.2 ∙ ap (λ n. eqb n 0 && are_zeros l) h.1

-- and those from a position on
pub zeros_joined_from : (r : ℕ) (l : List ℕ) (n : ℕ)
    → (first : ℕ) × (first ≡ 0) × FoldsTo (λ x y z. z ≡ bit_or x y) first (take (length l - n) (drop n l)) r → eqb r 0
    ≡ are_zeros (drop n l)
zeros_joined_from r l n h = zeros_joined r _ h ∙ ap are_zeros (part l n)

-- the least of a number and the marked numbers, as a loop meets them
pub least_none : (c : ℕ) (marks : List Bool) (numbers : List ℕ) → (length marks ≡ 0) ⊎ (length numbers ≡ 0) → least c marks numbers ≡ c
unfolding least
least_none c [] numbers e = refl
least_none c (m ∷ marks) [] e = refl
least_none c (m ∷ marks) (n ∷ numbers) (inl e) = absurd (omega arith)
least_none c (m ∷ marks) (n ∷ numbers) (inr e) = absurd (omega arith)

module _ (c n : ℕ) (marks : List Bool) (numbers : List ℕ) where
  least_min : least (min c n) marks numbers ≡ min n (least c marks numbers)
  unfolding least
  least_min = go marks numbers
    where
      go : (marks : List Bool) (numbers : List ℕ) → least (min c n) marks numbers ≡ min n (least c marks numbers)
      go [] numbers = omega arith
      go (m ∷ marks) [] = omega arith
      go (true ∷ marks) (x ∷ numbers) = omega (arith, go marks numbers)
      go (false ∷ marks) (x ∷ numbers) = go marks numbers

  module _ {m : Bool} {ms : List Bool} {ns : List ℕ} (p : ms ≡ m ∷ marks) (q : ns ≡ n ∷ numbers) where
    pub least_open : m ≡ true → least (min c n) marks numbers ≡ least c ms ns
    unfolding least
    least_open e = least_min ∙ sym (rw (p, q, e))

    pub least_closed : m ≡ false → least c marks numbers ≡ least c ms ns
    unfolding least
    least_closed e = sym (rw (p, q, e))
