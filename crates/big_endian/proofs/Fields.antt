-- A number of at most eight bytes in a part of a slice: stored byte by byte, and read byte by byte.
-- Assumes nothing.
use mathlib.Core.Path.{◌≡◌, sym, ap, ◌∙◌}
use mathlib.Core.List.{List, [], ◌∷◌, ◌++◌, append_assoc}
use Prim.Native.Nat.{ℕ, zero, suc, ◌+◌, ◌-◌, ◌*◌, ◌/◌, ◌%◌, ◌^◌, ◌≤◌, ◌<◌}
use native.Mathlib.Nat.{pow-succ', zero-mul, le-mul_of_pos_right}
use native.Mathlib.Omega.{arith}
use borrow.Rule.Slice.PartMut.{put_mid, Post-is}
use lib.Bits.{bit_or}
use lib.ListN.{length, take, drop, get_or, length-drop, length-take}
use lib.Pow.{pow-add, pow_mono}
use lib.Seq.{length-take-le}
use Rattle.std.proofs.lemmas.Nat.{or_shifted}
use Rattle.std.specs.List.{fold}
use Rattle.changes.specs.Lists.{All}
use Rattle.changes.proofs.Each.{all_take, all_drop}
use Rattle.big_endian.specs.Bytes.{bytes_of, value_of, Byte}
use Rattle.big_endian.proofs.Bytes.{bytes_more, value_none, value_more, value_small, shift, power_positive}

power : (k : ℕ) → 256 ^ k ≡ 2 ^ (8 * k)
power zero = omega arith
power (suc k) =
    let more : 8 * suc k ≡ 8 + 8 * k = omega arith in
    pow-succ' 256 k ∙ ap (λ (n : ℕ). 256 * n) (power k) ∙ sym (ap (λ (n : ℕ). 2 ^ n) more ∙ pow-add 2 8 (8 * k))

-- the number in the first bytes of some
pub value_first : (k : ℕ) (l : List ℕ) → All Byte l → value_of (take k l) < 256 ^ k
value_first k l h =
    let fewer : length (take k l) ≤ k = omega (arith, length-take k l) in
    omega (
      arith,
      value_small (take k l) (all_take Byte k l h),
      power (length (take k l)),
      power k,
      pow_mono {i = 8 * length (take k l)} {j = 8 * k} (omega arith),
    )

-- the bytes that are left to be stored: the next one, and those behind it
pub bytes_next : (k i n : ℕ) → i < k → bytes_of (k - i) n ≡ n / 2 ^ (8 * (k - 1 - i)) % 256 ∷ bytes_of (k - (i + 1)) n
bytes_next k i n h =
    let more : k - i ≡ suc (k - (i + 1)) = omega arith in
    let same : k - 1 - i ≡ k - (i + 1) = omega arith in
    ap (λ (m : ℕ). bytes_of m n) more
    ∙ bytes_more (k - (i + 1)) n
    ∙ ap (λ (p : ℕ). n / p % 256 ∷ bytes_of (k - (i + 1)) n) (power (k - (i + 1)) ∙ ap (λ (m : ℕ). 2 ^ (8 * m)) (sym same))

-- a part of a slice as it is lent, and when it has come back
pub part_length : (s : List ℕ) (at k : ℕ) → at + k ≤ length s → length (take (at + k - at) (drop at s)) ≡ k
part_length s at k room =
    length-take-le (at + k - at) (drop at s) (omega (arith, length-drop at s)) ∙ omega arith

pub put_part : (s last : List ℕ) (at k : ℕ) → put_mid at (at + k - at) s last ≡ take at s ++ last ++ drop (at + k) s
put_part s last at k =
    ap (λ (l : List ℕ). take at s ++ (last ++ l)) (Post-is at (at + k) s (omega arith))
    ∙ sym (append_assoc (take at s) last (drop (at + k) s))

-- a number with one byte more
abbrev pub with_byte : ℕ → ℕ → ℕ
with_byte n b = bit_or (n * 2 ^ 8 % 2 ^ 64) b

-- the bytes behind a number, as they are read
bytes_read : (n : ℕ) (l : List ℕ) → All Byte l → n * 256 ^ length l + value_of l < 2 ^ 64
    → fold with_byte n l ≡ n * 256 ^ length l + value_of l
unfolding All
bytes_read n [] h fits = rw value_none (omega arith)
bytes_read n (b ∷ l) h fits =
    let whole : n * 256 ^ suc (length l) + value_of (b ∷ l) ≡ (n * 256 + b) * 256 ^ length l + value_of l =
    ap (λ (p : ℕ). n * p + value_of (b ∷ l)) (pow-succ' 256 (length l))
    ∙ ap (λ (v : ℕ). n * (256 * 256 ^ length l) + v) (value_more b l)
    ∙ shift n b (256 ^ length l) (value_of l) in
    let small : n * 256 + b ≤ (n * 256 + b) * 256 ^ length l = le-mul_of_pos_right (n * 256 + b) (power_positive (length l)) in
    let kept : n * 2 ^ 8 % 2 ^ 64 ≡ n * 2 ^ 8 = omega (arith, fits, whole, small) in
    let one : with_byte n b ≡ n * 256 + b = ap (λ (m : ℕ). bit_or m b) kept ∙ or_shifted n 8 b h.0 in
    rw one (bytes_read (n * 256 + b) l h.1 (rw (← whole) fits) ∙ sym whole)

-- what the type of bytes says of them
pub all_bytes : (l : List ℕ) → ((i : ℕ) → get_or l i 0 < 256) → All Byte l
unfolding All
all_bytes [] h = tt
all_bytes (n ∷ l) h = (h 0, all_bytes l (λ i. h (suc i)))

-- the number in a part of some bytes
pub part_read : (s : List ℕ) (at k n : ℕ) → k ≤ 8 → at + k ≤ length s → ((i : ℕ) → get_or s i 0 < 256)
    → n ≡ fold with_byte 0 (take (at + k - at) (drop at s)) → (n ≡ value_of (take k (drop at s))) × (n < 256 ^ k)
part_read s at k n h room bytes e =
    let count : at + k - at ≡ k = omega arith in
    let part = take k (drop at s) in
    let size : length part ≡ k = ap (λ (m : ℕ). length (take m (drop at s))) (sym count) ∙ part_length s at k room in
    let small : value_of part < 256 ^ k = value_first k (drop at s) (all_drop Byte at s (all_bytes s bytes)) in
    let fits : value_of part < 2 ^ 64 = omega (arith, small, power k, pow_mono {i = 8 * k} {j = 64} (omega arith)) in
    let same : n ≡ value_of part =
    e
    ∙ ap (λ (m : ℕ). fold with_byte 0 (take m (drop at s))) count
    ∙ bytes_read 0 part (all_take Byte k (drop at s) (all_drop Byte at s (all_bytes s bytes)))
    (omega (arith, zero-mul (256 ^ length part), fits))
    ∙ omega (arith, zero-mul (256 ^ length part)) in
    (same, omega (arith, same, small))
