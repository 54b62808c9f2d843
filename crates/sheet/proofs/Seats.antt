-- The words of a row, by the set bits of its mask from the most significant on: how many they are, and which is the next.
-- Assumes nothing.
use mathlib.Core.Path.{◌≡◌, refl, sym, ap, subst, ◌∙◌}
use mathlib.Core.List.{List, [], ◌∷◌}
use Prim.Native.Nat.{ℕ, zero, suc, ◌+◌, ◌-◌, ◌/◌, ◌%◌, ◌^◌, ◌≤◌, ◌<◌}
use native.Mathlib.Nat.{div-one, mod-one, mod-lt, mod-le, mod-eq_of_lt, lt_of_not-le}
use native.Mathlib.Decide.{ℕ_discrete, le_ind}
use native.Mathlib.Omega.{arith}
use lib.Count.{ones}
use lib.ListN.{length}
use lib.Pow.{pow_pos, pow_mono}
use Rattle.sheet.specs.Sheet.{Row, set_bits, place_in, seat_word, seat_words}
use Rattle.sheet.proofs.Bits.{none_set, set_bits_lem, place_ones}
use Rattle.sheet.proofs.Clauses.{seats_none, seats_set, seats_unset}
use Rattle.sheet.proofs.MaskBits.{low_set, low_unset, ones_more, ones_parts, ones_low_set}

-- what holds of no seats, and of one seat more with and without its word, holds of the words of a row's last k seats
pub seats_by : (r : Row) (P : ℕ → List ℕ → Type 0) → P 0 []
    → ((k : ℕ) (l : List ℕ) → suc k ≤ 32 → r.mask / 2 ^ k % 2 ≡ 1 → P k l → P (suc k) (seat_word r (31 - k) ∷ l))
    → ((k : ℕ) (l : List ℕ) → suc k ≤ 32 → r.mask / 2 ^ k % 2 ≡ 0 → P k l → P (suc k) l)
    → (k : ℕ) → k ≤ 32 → P k (seat_words r k)
seats_by r P none set unset zero h = subst (P 0) (sym (seats_none r)) none
seats_by r P none set unset (suc k) h =
    go (ℕ_discrete (r.mask / 2 ^ k % 2) 1) (seats_by r P none set unset k (omega arith))
  where
    go : Dec (r.mask / 2 ^ k % 2 ≡ 1) → P k (seat_words r k) → P (suc k) (seat_words r (suc k))
    go (yes e) i = subst (P (suc k)) (sym (seats_set r k e)) (set k (seat_words r k) h e i)
    go (no n) i = subst (P (suc k)) (sym (seats_unset r k n)) (unset k (seat_words r k) h (omega (arith, n)) i)

-- a row has as many words as its mask has set bits
pub row_length : (r : Row) → r.mask < 2 ^ 32 → length (seat_words r 32) ≡ set_bits r.mask
row_length r h =
    seats_by r (λ (k : ℕ) (l : List ℕ). length l ≡ ones (r.mask % 2 ^ k)) (sym (ap ones (mod-one r.mask) ∙ none_set))
    (λ k l h e i. ap suc i ∙ sym (ones_low_set r.mask k e)) (λ k l h e i. i ∙ ap ones (sym (low_unset r.mask k e))) 32 (omega arith)
    ∙ ap ones (mod-eq_of_lt h)
    ∙ sym (set_bits_lem r.mask h)

-- the words of the last k seats and of the last j seats are the same, as no bit between is set
record Same (r : Row) (k j : ℕ) : Type 0 where
  words : seat_words r k ≡ seat_words r j
  low : r.mask % 2 ^ k ≡ r.mask % 2 ^ j
  passed : ones (r.mask / 2 ^ k) ≡ ones (r.mask / 2 ^ j)

module _ (r : Row) (j : ℕ) where
  same_more : (k : ℕ) → j ≤ k → (r.mask % 2 ^ k < 2 ^ j → Same r k j) → r.mask % 2 ^ suc k < 2 ^ j → Same r (suc k) j
  same_more k l i h = go (ℕ_discrete (r.mask / 2 ^ k % 2) 1)
    where
      go : Dec (r.mask / 2 ^ k % 2 ≡ 1) → Same r (suc k) j
      go (yes e) = absurd (omega (arith, low_set r.mask k e, pow_mono {i = j} {j = k} l))
      go (no n) =
          let unset : r.mask / 2 ^ k % 2 ≡ 0 = omega (arith, n) in
          let low = low_unset r.mask k unset in
          let rest = i (omega (arith, low)) in
          record {
            words = seats_unset r k n ∙ rest.words;
            low = low ∙ rest.low;
            passed = omega (arith, ones_more r.mask k, rest.passed);
          }

  skip : (k : ℕ) → j ≤ k → r.mask % 2 ^ k < 2 ^ j → Same r k j
  skip k l =
      le_ind (λ (n : ℕ). r.mask % 2 ^ n < 2 ^ j → Same r n j) (λ h. record { words = refl; low = refl; passed = refl }) same_more k l

-- the seats before the first set bit have no words
pub seats_from : (r : Row) (j : ℕ) → r.mask < 2 ^ j → (k : ℕ) → j ≤ k → seat_words r k ≡ seat_words r j
seats_from r j h k l = (skip r j k l (omega (arith, mod-le r.mask (2 ^ k)))).words

-- no bit is left, so no word is
pub seats_end : (r : Row) (k : ℕ) → r.mask % 2 ^ k ≡ 0 → (seat_words r k ≡ []) × (ones (r.mask / 2 ^ k) ≡ ones r.mask)
seats_end r k e =
    let s = skip r 0 k (omega arith) (omega (arith, e)) in
    (s.words ∙ seats_none r, s.passed ∙ ap ones (div-one r.mask))

-- The bits that are left of a mask are those of the last k seats. The most significant is the next seat's, and j seats are behind it.
module _ (r : Row) (fits : r.mask < 2 ^ 32) (k j : ℕ) (inside : k ≤ 32) (low : 2 ^ j ≤ r.mask % 2 ^ k)
    (high : r.mask % 2 ^ k < 2 ^ suc j) where
  before_end : suc j ≤ k
  before_end = lt_of_not-le (λ (h : k ≤ j). omega (arith, pow_mono {i = k} {j = j} h, mod-lt r.mask (pow_pos k)))

  same : Same r k (suc j)
  same = skip r (suc j) k before_end high

  bit_set : r.mask / 2 ^ j % 2 ≡ 1
  bit_set = go (ℕ_discrete (r.mask / 2 ^ j % 2) 1)
    where
      go : Dec (r.mask / 2 ^ j % 2 ≡ 1) → r.mask / 2 ^ j % 2 ≡ 1
      go (yes e) = e
      go (no n) =
          let unset : r.mask / 2 ^ j % 2 ≡ 0 = omega (arith, n) in
          absurd (omega (arith, same.low, low_unset r.mask j unset, mod-lt r.mask (pow_pos j)))

  pub next_words : seat_words r k ≡ seat_word r (31 - j) ∷ seat_words r j
  next_words = same.words ∙ seats_set r j bit_set

  pub next_low : r.mask % 2 ^ k ≡ 2 ^ j + r.mask % 2 ^ j
  next_low = same.low ∙ low_set r.mask j bit_set

  pub next_passed : ones (r.mask / 2 ^ j) ≡ suc (ones (r.mask / 2 ^ k))
  next_passed = omega (arith, ones_more r.mask j, bit_set, same.passed)

  -- as many words are before the next as set bits precede it
  pub next_place : place_in r.mask (31 - j) ≡ ones (r.mask / 2 ^ k)
  next_place =
      let left : 32 - (31 - j) ≡ suc j = omega (arith, before_end, inside) in
      place_ones r.mask (31 - j) fits ∙ ap (λ (n : ℕ). ones (r.mask / 2 ^ n)) left ∙ sym same.passed

  pub next_inside : ones (r.mask / 2 ^ k) < set_bits r.mask
  next_inside = omega (arith, next_passed, ones_parts r.mask j, set_bits_lem r.mask fits)
