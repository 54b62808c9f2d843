-- Numbers and their bytes: each determines the other.
-- Assumes nothing.
use mathlib.Core.Path.{◌≡◌, refl, sym, ap, ap₂, ◌∙◌}
use mathlib.Core.List.{List, [], ◌∷◌, ◌++◌}
use Prim.Native.Nat.{ℕ, zero, suc, ◌+◌, ◌*◌, ◌/◌, ◌%◌, ◌^◌, ◌<◌}
use native.Mathlib.Nat.{mod-one, pow-succ', one-le-pow, add-mul, mul_assoc, add_assoc, zero-mul, mod-eq_of_lt}
use native.Mathlib.Omega.{arith}
use lib.Arith.{mod-mul, digits_lt, digits_div}
use lib.ListN.{length, length-append}
use lib.Pow.{pow-add}
use Rattle.changes.specs.Lists.{All}
use Rattle.big_endian.specs.Bytes.{bytes_of, value_of, Byte}

pub bytes_none : (n : ℕ) → bytes_of 0 n ≡ []
unfolding bytes_of
bytes_none n = refl

pub bytes_more : (k n : ℕ) → bytes_of (suc k) n ≡ n / 256 ^ k % 256 ∷ bytes_of k n
unfolding bytes_of
bytes_more k n = refl

pub value_none : value_of [] ≡ 0
unfolding value_of
value_none = refl

pub value_more : (b : ℕ) (l : List ℕ) → value_of (b ∷ l) ≡ b * 256 ^ length l + value_of l
unfolding value_of
value_more b l = refl

pub length_bytes : (k n : ℕ) → length (bytes_of k n) ≡ k
unfolding bytes_of
length_bytes zero n = refl
length_bytes (suc k) n = ap suc (length_bytes k n)

pub bytes_small : (k n : ℕ) → All Byte (bytes_of k n)
unfolding bytes_of All
bytes_small zero n = tt
bytes_small (suc k) n = (omega arith, bytes_small k n)

power_more : (k : ℕ) → 256 ^ suc k ≡ 256 * 256 ^ k
power_more k = pow-succ' 256 k

pub power_positive : (k : ℕ) → 0 < 256 ^ k
power_positive k = one-le-pow k 256 (omega arith)

pub value_small : (l : List ℕ) → All Byte l → value_of l < 256 ^ length l
unfolding value_of All
value_small [] h = omega arith
value_small (b ∷ l) h = rw (power_more (length l)) (digits_lt h.0 (value_small l h.1))

-- the number of a number's last k bytes
pub value_bytes : (k n : ℕ) → value_of (bytes_of k n) ≡ n % 256 ^ k
unfolding bytes_of value_of
value_bytes zero n = sym (mod-one n)
value_bytes (suc k) n =
    ap₂ (λ (p v : ℕ). n / 256 ^ k % 256 * 256 ^ p + v) (length_bytes k n) (value_bytes k n)
    ∙ sym (rw (power_more k) (mod-mul n (omega arith) (power_positive k)))

pub value_of_bytes : (k n : ℕ) → n < 256 ^ k → value_of (bytes_of k n) ≡ n
value_of_bytes k n h = value_bytes k n ∙ mod-eq_of_lt h

-- the bytes of some bytes' number, whatever stands before them
pub shift : (q b p v : ℕ) → q * (256 * p) + (b * p + v) ≡ (q * 256 + b) * p + v
shift q b p v = rw (← mul_assoc q 256 p, add-mul (q * 256) b p, add_assoc)

bytes_behind : (q : ℕ) (l : List ℕ) → All Byte l → bytes_of (length l) (q * 256 ^ length l + value_of l) ≡ l
unfolding bytes_of value_of All
bytes_behind q [] h = refl
bytes_behind q (b ∷ l) h =
    let same : q * 256 ^ suc (length l) + (b * 256 ^ length l + value_of l)
    ≡ (q * 256 + b) * 256 ^ length l + value_of l = rw (power_more (length l)) (shift q b (256 ^ length l) (value_of l)) in
    let first : ((q * 256 + b) * 256 ^ length l + value_of l) / 256 ^ length l
    ≡ q * 256 + b = digits_div (q * 256 + b) (value_small l h.1) in
    rw same (ap₂ ◌∷◌ (rw first (omega (arith, h.0))) (bytes_behind (q * 256 + b) l h.1))

pub bytes_of_value : (l : List ℕ) → All Byte l → bytes_of (length l) (value_of l) ≡ l
bytes_of_value l h =
    let same : 0 * 256 ^ length l + value_of l ≡ value_of l = omega (arith, zero-mul (256 ^ length l)) in
    rw same at (bytes_behind 0 l h)

-- the number of two runs of bytes
pub value_append : (a b : List ℕ) → value_of (a ++ b) ≡ value_of a * 256 ^ length b + value_of b
unfolding value_of
value_append [] b = omega (arith, zero-mul (256 ^ length b))
value_append (x ∷ a) b =
    rw (length-append a b, value_append a b, pow-add 256 (length a) (length b), add-mul, ← mul_assoc, add_assoc)
