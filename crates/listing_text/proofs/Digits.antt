-- A number in decimal: its clauses, how many digits it has at most, and its digits stored.
-- Assumes nothing.
use mathlib.Core.Path.{◌≡◌, refl, sym, ap, ◌∙◌}
use mathlib.Core.List.{List, ◌++◌}
use Prim.Native.Nat.{ℕ, zero, suc, ◌+◌, ◌/◌, ◌%◌, ◌^◌, ◌≤◌, ◌<◌}
use native.Mathlib.Nat.{pow-succ'}
use native.Mathlib.Decide.{dec_lt}
use native.Mathlib.Omega.{arith}
use borrow.Author.Tests.{lt-ltb, le-ltb}
use lib.ListN.{length, length-append}
use Rattle.listing_text.specs.Decimal.{digit, decimal_within, decimal_of}

-- the clauses by whether there is one digit; any bound from the number on gives the same digits
within_one : (f n : ℕ) → n < 10 → decimal_within f n ≡ digit n
unfolding decimal_within
within_one zero n h = refl
within_one (suc f) n h = rw (lt-ltb n 10 h)

within_more : (f n : ℕ) → 10 ≤ n → decimal_within (suc f) n ≡ decimal_within f (n / 10) ++ digit (n % 10)
unfolding decimal_within
within_more f n h = rw (le-ltb n 10 h)

within_same : (f g n : ℕ) → n ≤ f → n ≤ g → decimal_within f n ≡ decimal_within g n
within_same zero g n h k = within_one zero n (omega arith) ∙ sym (within_one g n (omega arith))
within_same (suc f) zero n h k = within_one (suc f) n (omega arith) ∙ sym (within_one zero n (omega arith))
within_same (suc f) (suc g) n h k = go (dec_lt n 10) (within_same f g (n / 10))
  where
    go : Dec (n < 10) → (n / 10 ≤ f → n / 10 ≤ g → decimal_within f (n / 10) ≡ decimal_within g (n / 10))
        → decimal_within (suc f) n ≡ decimal_within (suc g) n
    go (yes l) same = within_one (suc f) n l ∙ sym (within_one (suc g) n l)
    go (no l) same =
        let ten : 10 ≤ n = omega arith in
        within_more f n ten
        ∙ ap (λ (d : List ℕ). d ++ digit (n % 10)) (same (omega arith) (omega arith))
        ∙ sym (within_more g n ten)

pub decimal_one : (n : ℕ) → n < 10 → decimal_of n ≡ digit n
unfolding decimal_of
decimal_one n h = within_one n n h

pub decimal_more : (n : ℕ) → 10 ≤ n → decimal_of n ≡ decimal_of (n / 10) ++ digit (n % 10)
unfolding decimal_of
decimal_more zero h = absurd (omega arith)
decimal_more (suc m) h =
    within_more m (suc m) h ∙ ap (λ (d : List ℕ). d ++ digit (suc m % 10))
    (within_same m (suc m / 10) (suc m / 10) (omega arith) (omega arith))

pub length_one : (n : ℕ) → n < 10 → length (decimal_of n) ≡ 1
length_one n h = ap length (decimal_one n h)

pub length_more : (n : ℕ) → 10 ≤ n → length (decimal_of n) ≡ length (decimal_of (n / 10)) + 1
length_more n h = ap length (decimal_more n h) ∙ length-append (decimal_of (n / 10)) (digit (n % 10))

pub length_some : (n : ℕ) → 0 < length (decimal_of n)
length_some n = go (dec_lt n 10)
  where
    go : Dec (n < 10) → 0 < length (decimal_of n)
    go (yes l) = omega (arith, length_one n l)
    go (no l) = omega (arith, length_more n (omega arith))

-- a number below the k-th power of ten has at most k digits
pub digits_at_most : (k n : ℕ) → n < 10 ^ suc k → length (decimal_of n) ≤ suc k
digits_at_most zero n h = omega (arith, length_one n h)
digits_at_most (suc k) n h = go (dec_lt n 10) (digits_at_most k (n / 10))
  where
    go : Dec (n < 10) → (n / 10 < 10 ^ suc k → length (decimal_of (n / 10)) ≤ suc k) → length (decimal_of n) ≤ suc (suc k)
    go (yes l) fewer = omega (arith, length_one n l)
    go (no l) fewer =
        let ten : 10 ≤ n = omega arith in
        let tenth : n / 10 < 10 ^ suc k = omega (arith, pow-succ' 10 (suc k)) in
        omega (arith, length_more n ten, fewer tenth)

-- numbers of 32 and of 64 bits
pub digits_32 : (n : ℕ) → n < 2 ^ 32 → length (decimal_of n) ≤ 10
digits_32 n h = digits_at_most 9 n (omega arith)

pub digits_64 : (n : ℕ) → n < 2 ^ 64 → length (decimal_of n) ≤ 20
digits_64 n h = digits_at_most 19 n (omega arith)

-- both, for a tactic
pub ruleset short = (digits_32, digits_64)
