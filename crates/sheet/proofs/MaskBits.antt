-- The bits of a mask at a place, from it on and below it; a mask with a bit more in front; the most and the least significant set bit.
-- Assumes nothing.
use mathlib.Core.Path.{◌≡◌, refl, sym, ap, subst, ◌∙◌}
use Prim.Native.Nat.{ℕ, zero, suc, ◌+◌, ◌-◌, ◌*◌, ◌/◌, ◌%◌, ◌^◌, ◌≤◌, ◌<◌}
use native.Mathlib.Decide.{ℕ_discrete}
use native.Mathlib.Nat.{mod-lt, zero-mul, one-mul, zero-add, add-zero, add_assoc, add-mul, pow-suc}
use native.Mathlib.Omega.{arith}
use lib.Count.{ones, ones_step, ones_cat, ones-le, count_leading_zeros, leading_top, count_trailing_zeros, under}
use lib.Pow.{pow_pos, pow-add, pow_mono, pow-lt, shr_lt, shr-shr, mod-pow-add, high, split}
use Rattle.sheet.specs.Sheet.{set_bits, place_in}
use Rattle.sheet.proofs.Bits.{none_set, one_set, set_bits_lem, place_ones}

-- a bit more in front
pub front_small : (j mask : ℕ) → mask < 2 ^ j → 2 ^ j + mask < 2 ^ suc j
front_small j mask h = omega (arith, h, pow-suc 2 j)

pub ones_front : (j mask : ℕ) → mask < 2 ^ j → ones (2 ^ j + mask) ≡ suc (ones mask)
ones_front j mask h = ap (λ (x : ℕ). ones (x + mask)) (sym (one-mul (2 ^ j))) ∙ ones_cat j 1 mask h ∙ omega (arith, one_set)

pub one_bit : (j : ℕ) → ones (2 ^ j) ≡ 1
one_bit j = ap ones (sym (add-zero (2 ^ j))) ∙ ones_front j 0 (pow_pos j) ∙ ap suc none_set

-- a number above 0 has a set bit
set_below : (fuel n : ℕ) → n < fuel → 0 < n → 0 < ones n
set_below zero n l h = absurd (omega arith)
set_below (suc fuel) n l h = go (ℕ_discrete (n % 2) 0) (set_below fuel (n / 2))
  where
    go : Dec (n % 2 ≡ 0) → (n / 2 < fuel → 0 < n / 2 → 0 < ones (n / 2)) → 0 < ones n
    go (yes e) half = omega (arith, ones_step n, half (omega arith) (omega arith))
    go (no e) half = omega (arith, ones_step n)

pub some_set : (n : ℕ) → 0 < n → 0 < ones n
some_set n h = set_below (suc n) n (omega arith) h

-- the bit at a place: what lies below the next place, and how many bits are set from the place on
module _ (m k : ℕ) where
  bit_more : m % 2 ^ suc k ≡ (m / 2 ^ k % 2) * 2 ^ k + m % 2 ^ k
  bit_more =
      let one : suc k ≡ 1 + k = omega arith in
      ap (λ (n : ℕ). m % 2 ^ n) one ∙ mod-pow-add m 1 k

  pub low_set : m / 2 ^ k % 2 ≡ 1 → m % 2 ^ suc k ≡ 2 ^ k + m % 2 ^ k
  low_set e = bit_more ∙ ap (λ (b : ℕ). b * 2 ^ k + m % 2 ^ k) e ∙ ap (λ (x : ℕ). x + m % 2 ^ k) (one-mul (2 ^ k))

  pub low_unset : m / 2 ^ k % 2 ≡ 0 → m % 2 ^ suc k ≡ m % 2 ^ k
  low_unset e =
      bit_more ∙ ap (λ (b : ℕ). b * 2 ^ k + m % 2 ^ k) e ∙ ap (λ (x : ℕ). x + m % 2 ^ k) (zero-mul (2 ^ k)) ∙ zero-add (m % 2 ^ k)

  pub ones_more : ones (m / 2 ^ k) ≡ m / 2 ^ k % 2 + ones (m / 2 ^ suc k)
  ones_more =
      let one : k + 1 ≡ suc k = omega arith in
      ones_step (m / 2 ^ k) ∙ ap (λ (n : ℕ). m / 2 ^ k % 2 + ones n) (shr-shr m k 1 ∙ ap (λ (n : ℕ). m / 2 ^ n) one)

  -- the set bits from a place on, and those below it
  pub ones_parts : ones m ≡ ones (m / 2 ^ k) + ones (m % 2 ^ k)
  ones_parts = ap ones (sym (split m k)) ∙ ones_cat k (m / 2 ^ k) (m % 2 ^ k) (mod-lt m (pow_pos k))

  pub ones_low_set : m / 2 ^ k % 2 ≡ 1 → ones (m % 2 ^ suc k) ≡ suc (ones (m % 2 ^ k))
  ones_low_set e = ap ones (low_set e) ∙ ones_front k (m % 2 ^ k) (mod-lt m (pow_pos k))

-- how many set bits precede the seat that has k behind it
pub place_left : (m k : ℕ) → m < 2 ^ 32 → suc k ≤ 32 → place_in m (31 - k) ≡ ones (m / 2 ^ suc k)
place_left m k f h =
    let left : 32 - (31 - k) ≡ suc k = omega arith in
    place_ones m (31 - k) f ∙ ap (λ (n : ℕ). ones (m / 2 ^ n)) left

-- a number below a power has no bit from there on
pub none_above : (m j k : ℕ) → m < 2 ^ j → j ≤ k → m / 2 ^ k ≡ 0
none_above m j k h l =
    let sum : 0 + k ≡ k = omega arith in
    let less : m < 2 ^ (0 + k) = omega (arith, pow_mono {i = j} {j = k} l, ap (λ (n : ℕ). 2 ^ n) sum) in
    let one = shr_lt {n = m} 0 k less in
    omega (arith, one)

-- what lies from a place on, of a mask with a bit more in front
module _ (mask j : ℕ) (h : mask < 2 ^ j) where
  from_place : (k : ℕ) → k ≤ j → (2 ^ j + mask) / 2 ^ k ≡ 2 ^ (j - k) + mask / 2 ^ k
  from_place k l =
      let sum : j - k + k ≡ j = omega arith in
      let cut : 2 ^ j ≡ 2 ^ (j - k) * 2 ^ k = ap (λ (x : ℕ). 2 ^ x) (sym sum) ∙ pow-add 2 (j - k) k in
      let whole : 2 ^ j + mask ≡ (2 ^ (j - k) + mask / 2 ^ k) * 2 ^ k + mask % 2 ^ k =
      ap (λ (x : ℕ). x + mask) cut
      ∙ ap (λ (x : ℕ). 2 ^ (j - k) * 2 ^ k + x) (sym (split mask k))
      ∙ sym (add_assoc _ _ _)
      ∙ ap (λ (x : ℕ). x + mask % 2 ^ k) (sym (add-mul (2 ^ (j - k)) (mask / 2 ^ k) (2 ^ k))) in
      ap (λ (x : ℕ). x / 2 ^ k) whole ∙ high (2 ^ (j - k) + mask / 2 ^ k) k (mod-lt mask (pow_pos k))

  rest_small : (k : ℕ) → k ≤ j → mask / 2 ^ k < 2 ^ (j - k)
  rest_small k l =
      let sum : j ≡ j - k + k = omega arith in
      shr_lt {n = mask} (j - k) k (omega (arith, h, ap (λ (x : ℕ). 2 ^ x) sum))

  pub same_bit : (k : ℕ) → k < j → (2 ^ j + mask) / 2 ^ k % 2 ≡ mask / 2 ^ k % 2
  same_bit k l =
      let one : j - k ≡ suc (j - suc k) = omega arith in
      let even : 2 ^ (j - k) ≡ 2 ^ (j - suc k) * 2 = ap (λ (x : ℕ). 2 ^ x) one ∙ pow-suc 2 (j - suc k) in
      omega (arith, from_place k (omega arith), even)

  pub front_set : (2 ^ j + mask) / 2 ^ j % 2 ≡ 1
  front_set =
      let none : j - j ≡ 0 = omega arith in
      omega (arith, from_place j (omega arith), ap (λ (x : ℕ). 2 ^ x) none, none_above mask j j h (omega arith))

  pub place_more : (k : ℕ) → k ≤ j → ones ((2 ^ j + mask) / 2 ^ k) ≡ suc (ones (mask / 2 ^ k))
  place_more k l = ap ones (from_place k l) ∙ ones_front (j - k) (mask / 2 ^ k) (rest_small k l)

-- the bit of an offer's seat, and those of the seats behind it
module _ (offer : ℕ) where
  pub seats_fit : 2 ^ (32 - offer % 32) ≤ 2 ^ 32
  seats_fit = pow_mono {i = 32 - offer % 32} {j = 32} (omega arith)

  pub bit_small : 2 ^ (31 - offer % 32) < 2 ^ (32 - offer % 32)
  bit_small = pow-lt {i = 31 - offer % 32} {j = 32 - offer % 32} (omega arith)

  pub bits_small : (x : ℕ) → x < 2 ^ (31 - offer % 32) → 2 ^ (31 - offer % 32) + x < 2 ^ (32 - offer % 32)
  bits_small x l =
      let one : 32 - offer % 32 ≡ suc (31 - offer % 32) = omega arith in
      omega (arith, front_small (31 - offer % 32) x l, ap (λ (k : ℕ). 2 ^ k) one)

-- the most significant set bit of a number of 32 bits
module _ (n : ℕ) (some : 0 < n) (fits : n < 2 ^ 32) where
  pub top_seat : count_leading_zeros 32 n < 32
  top_seat = omega (arith, (leading_top 32 n some fits).1)

  top_place : (leading_top 32 n some fits).0 ≡ 31 - count_leading_zeros 32 n
  top_place = omega (arith, (leading_top 32 n some fits).1)

  pub top_low : 2 ^ (31 - count_leading_zeros 32 n) ≤ n
  top_low = subst (λ (j : ℕ). 2 ^ j ≤ n) top_place (leading_top 32 n some fits).2

  pub top_high : n < 2 ^ suc (31 - count_leading_zeros 32 n)
  top_high = subst (λ (j : ℕ). n < 2 ^ suc j) top_place (leading_top 32 n some fits).3

-- the least significant set bit of a number of k bits: all its other set bits lie above it
last_set : (k n : ℕ) → 0 < n → n < 2 ^ k → (count_trailing_zeros k n < k) × (ones n ≡ suc (ones (n / 2 ^ suc (count_trailing_zeros k n))))
unfolding count_trailing_zeros
last_set zero n some fits = absurd (omega arith)
last_set (suc k) n some fits = go (n % 2) (count_trailing_zeros k (n / 2)) refl (last_set k (n / 2))
  where
    go : (d t : ℕ) → n % 2 ≡ d → (0 < n / 2 → n / 2 < 2 ^ k → (t < k) × (ones (n / 2) ≡ suc (ones (n / 2 / 2 ^ suc t))))
        → (under d t < suc k) × (ones n ≡ suc (ones (n / 2 ^ suc (under d t))))
    go zero t e half =
        let rest = half (omega arith) (omega (arith, pow-suc 2 k)) in
        let more : 1 + suc t ≡ suc (suc t) = omega arith in
        let above : n / 2 / 2 ^ suc t ≡ n / 2 ^ suc (suc t) = shr-shr n 1 (suc t) ∙ ap (λ (j : ℕ). n / 2 ^ j) more in
        (omega (arith, rest.0), omega (arith, ones_step n, rest.1, ap ones above))
    go (suc d) t e half = (omega arith, omega (arith, ones_step n))

module _ (mask : ℕ) (some : 0 < mask) (fits : mask < 2 ^ 32) where
  pub last_seat : count_trailing_zeros 32 mask < 32
  last_seat = (last_set 32 mask some fits).0

  -- a row has one price more than precede that of its last seat
  pub all_prices : (p : ℕ) → p ≡ place_in mask (31 - count_trailing_zeros 32 mask) → (p + 1 ≡ set_bits mask) × (p + 1 ≤ 32)
  all_prices p e =
      let place = place_left mask (count_trailing_zeros 32 mask) fits last_seat in
      let all = (last_set 32 mask some fits).1 in
      (omega (arith, e, place, all, set_bits_lem mask fits), omega (arith, e, place, all, ones-le 32 mask fits))
