-- The bits of a mask: how many are set, and how many of them precede a seat.
-- Assumes nothing.
use mathlib.Core.Path.{◌≡◌, refl, sym, ap, ◌∙◌}
use Prim.Native.Nat.{ℕ, zero, suc, ◌+◌, ◌-◌, ◌*◌, ◌/◌, ◌%◌, ◌^◌, ◌≤◌, ◌<◌}
use native.Mathlib.Nat.{add-zero, pow-suc}
use native.Mathlib.Omega.{arith}
use lib.Bits.{bit_and, and_high}
use lib.Count.{ones_in, ones, ones_step, ones_cat, ones-le}
use lib.Pow.{pow_pos, pow-add, shr_le, shr_mod, high, ones_split, ones_lt}
use Rattle.sheet.specs.Sheet.{set_bits, place_in}

pub none_set : ones 0 ≡ 0
unfolding ones
none_set = refl

pub one_set : ones 1 ≡ 1
unfolding ones
one_set = refl

-- as many digits as a number can have are enough to look at
ones_in_lem : (d n : ℕ) → n < 2 ^ d → ones_in d n ≡ ones n
unfolding ones_in
ones_in_lem zero n h =
    let none : n ≡ 0 = omega arith in
    sym (ap ones none ∙ none_set)
ones_in_lem (suc d) n h =
    let half : n / 2 < 2 ^ d = omega (arith, pow-suc 2 d) in
    ap (λ (x : ℕ). n % 2 + x) (ones_in_lem d (n / 2) half) ∙ sym (ones_step n)

-- the set bits of a number of 32 bits are all that are set
pub set_bits_lem : (n : ℕ) → n < 2 ^ 32 → set_bits n ≡ ones n
unfolding set_bits
set_bits_lem n h = ones_in_lem 32 n h

-- what a number of 32 bits has above a bit
above_small : (n k : ℕ) → n < 2 ^ 32 → n / 2 ^ k < 2 ^ 32
above_small n k h = omega (arith, shr_le n k)

pub place_ones : (mask seat : ℕ) → mask < 2 ^ 32 → place_in mask seat ≡ ones (mask / 2 ^ (32 - seat))
place_ones mask seat h = set_bits_lem (mask / 2 ^ (32 - seat)) (above_small mask (32 - seat) h)

-- all bits but those from a seat on
low_ones : (seat : ℕ) → seat ≤ 32 → (2 ^ 32 - 1) / 2 ^ seat ≡ 2 ^ (32 - seat) - 1
low_ones seat h =
    let whole : 32 ≡ 32 - seat + seat = omega arith in
    ap (λ (n : ℕ). (2 ^ n - 1) / 2 ^ seat) whole
    ∙ ap (λ (n : ℕ). n / 2 ^ seat) (ones_split (32 - seat) seat)
    ∙ high (2 ^ (32 - seat) - 1) seat (ones_lt seat)

pub seats_before : (seat : ℕ) → seat ≤ 32 → (2 ^ 32 - 1) - (2 ^ 32 - 1) / 2 ^ seat ≡ 2 ^ 32 - 2 ^ (32 - seat)
seats_before seat h = omega (arith, low_ones seat h, pow_pos (32 - seat))

-- "as many prices as set bits precede it"
pub ones_before : (mask seat : ℕ) → mask < 2 ^ 32 → seat ≤ 32
    → ones (bit_and mask (2 ^ 32 - 2 ^ (32 - seat))) ≡ ones (mask / 2 ^ (32 - seat))
ones_before mask seat fits h =
    let whole : 32 ≡ seat + (32 - seat) = omega arith in
    ap (λ (n : ℕ). ones (bit_and mask (2 ^ n - 2 ^ (32 - seat)))) whole
    ∙ ap ones (and_high mask seat (32 - seat))
    ∙ ap (λ (n : ℕ). ones (n * 2 ^ (32 - seat))) (shr_mod {n = mask} seat (32 - seat) (rw (← whole) fits))
    ∙ ap ones (sym (add-zero (mask / 2 ^ (32 - seat) * 2 ^ (32 - seat))))
    ∙ ones_cat (32 - seat) (mask / 2 ^ (32 - seat)) 0 (pow_pos (32 - seat))
    ∙ ap (λ (n : ℕ). ones (mask / 2 ^ (32 - seat)) + n) none_set
    ∙ add-zero (ones (mask / 2 ^ (32 - seat)))

-- no bit before a seat is set, so no price precedes that of the seat
pub place_none : (mask seat : ℕ) → mask < 2 ^ 32 → seat ≤ 32 → bit_and mask (2 ^ 32 - 2 ^ (32 - seat)) ≡ 0 → place_in mask seat ≡ 0
place_none mask seat fits h e = place_ones mask seat fits ∙ sym (ones_before mask seat fits h) ∙ ap ones e ∙ none_set

pub place_small : (mask seat : ℕ) → mask < 2 ^ 32 → seat ≤ 32 → ones (bit_and mask (2 ^ 32 - 2 ^ (32 - seat))) ≤ 32
place_small mask seat fits h =
    omega (arith, ones_before mask seat fits h, ones-le 32 (mask / 2 ^ (32 - seat)) (above_small mask (32 - seat) fits))

-- the bit of a seat
pub seat_bit : (seat : ℕ) → seat < 32 → 2 ^ 31 / 2 ^ seat ≡ 2 ^ (31 - seat)
seat_bit seat h =
    let whole : 31 ≡ 31 - seat + seat = omega arith in
    ap (λ (n : ℕ). 2 ^ n / 2 ^ seat) whole
    ∙ ap (λ (n : ℕ). n / 2 ^ seat) (pow-add 2 (31 - seat) seat ∙ sym (add-zero (2 ^ (31 - seat) * 2 ^ seat)))
    ∙ high (2 ^ (31 - seat)) seat (pow_pos seat)
