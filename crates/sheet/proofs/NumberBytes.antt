-- Numbers of 32 bits and their bytes, there and back: two at the head of bytes, and some one behind another.
-- Assumes nothing.
use mathlib.Core.Path.{◌≡◌, refl, sym, ap, ap₂, ◌∙◌}
use mathlib.Core.List.{List, [], ◌∷◌, ◌++◌, append_assoc}
use Prim.Native.Nat.{ℕ, zero, suc, ◌+◌, ◌*◌, ◌^◌, ◌≤◌, ◌<◌}
use native.Mathlib.Nat.{pow-le-pow_right}
use native.Mathlib.Omega.{arith}
use lib.ListN.{length, take, drop, get_or, length-append, length-take, length-drop}
use lib.Seq.{take_at, drop_at, take-add, drop-drop, length-take-le}
use Rattle.changes.specs.Lists.{All}
use Rattle.changes.proofs.Each.{all_take, all_drop}
use Rattle.big_endian.specs.Bytes.{bytes_of, value_of, Byte}
use Rattle.big_endian.proofs.Bytes.{length_bytes, bytes_small, value_small, value_of_bytes, bytes_of_value}
use Rattle.sheet.specs.Sheet.{number_bytes, numbers_in}
use Rattle.sheet.proofs.Clauses.{number_bytes_more, numbers_none, numbers_more}
use Rattle.sheet.proofs.Each.{all_both}
use Rattle.sheet.proofs.GoodRows.{Priced}

-- lengths
pub number_bytes-length : (l : List ℕ) → length (number_bytes l) ≡ 4 * length l
unfolding number_bytes
number_bytes-length [] = refl
number_bytes-length (n ∷ l) = length-append (bytes_of 4 n) (number_bytes l) ∙ omega (arith, length_bytes 4 n, number_bytes-length l)

pub numbers_length : (n : ℕ) (b : List ℕ) → length (numbers_in n b) ≡ n
unfolding numbers_in
numbers_length zero b = refl
numbers_length (suc n) b = ap suc (numbers_length n (drop 4 b))

-- all are bytes
pub number_bytes_small : (l : List ℕ) → All Byte (number_bytes l)
unfolding number_bytes All
number_bytes_small [] = tt
number_bytes_small (n ∷ l) = all_both Byte (bytes_of 4 n) (number_bytes l) (bytes_small 4 n) (number_bytes_small l)

-- four bytes are a number of 32 bits
pub four_small : (b : List ℕ) → All Byte b → value_of (take 4 b) < 2 ^ 32
four_small b h =
    let short : length (take 4 b) ≤ 4 = omega (arith, length-take 4 b) in
    let most = pow-le-pow_right {n = 256} (omega arith) {i = length (take 4 b)} {j = 4} short in
    omega (arith, value_small (take 4 b) (all_take Byte 4 b h), most)

four_back : (b : List ℕ) → 4 ≤ length b → All Byte b → bytes_of 4 (value_of (take 4 b)) ≡ take 4 b
four_back b l h =
    ap (λ (n : ℕ). bytes_of n (value_of (take 4 b))) (sym (length-take-le 4 b l)) ∙ bytes_of_value (take 4 b) (all_take Byte 4 b h)

-- two numbers at the head of bytes
module _ (x y : ℕ) (rest : List ℕ) where
  head_length : length (bytes_of 4 x ++ bytes_of 4 y) ≡ 8
  head_length = length-append (bytes_of 4 x) (bytes_of 4 y) ∙ ap₂ ◌+◌ (length_bytes 4 x) (length_bytes 4 y)

  behind_first : bytes_of 4 x ++ bytes_of 4 y ++ rest ≡ bytes_of 4 x ++ (bytes_of 4 y ++ rest)
  behind_first = append_assoc (bytes_of 4 x) (bytes_of 4 y) rest

  pub headed_length : length (bytes_of 4 x ++ bytes_of 4 y ++ rest) ≡ 8 + length rest
  headed_length = length-append (bytes_of 4 x ++ bytes_of 4 y) rest ∙ ap (λ (n : ℕ). n + length rest) head_length

  pub headed_small : All Byte rest → All Byte (bytes_of 4 x ++ bytes_of 4 y ++ rest)
  headed_small h =
      all_both Byte (bytes_of 4 x ++ bytes_of 4 y) rest (all_both Byte (bytes_of 4 x) (bytes_of 4 y) (bytes_small 4 x) (bytes_small 4 y)) h

  pub first_number : x < 2 ^ 32 → value_of (take 4 (bytes_of 4 x ++ bytes_of 4 y ++ rest)) ≡ x
  first_number h =
      ap value_of (ap (take 4) behind_first ∙ take_at (bytes_of 4 x) (bytes_of 4 y ++ rest) 4 (length_bytes 4 x)) ∙ value_of_bytes 4 x h

  pub second_number : y < 2 ^ 32 → value_of (take 4 (drop 4 (bytes_of 4 x ++ bytes_of 4 y ++ rest))) ≡ y
  second_number h =
      ap (λ (r : List ℕ). value_of (take 4 r)) (ap (drop 4) behind_first
      ∙ drop_at (bytes_of 4 x) (bytes_of 4 y ++ rest) 4 (length_bytes 4 x))
      ∙ ap value_of (take_at (bytes_of 4 y) rest 4 (length_bytes 4 y))
      ∙ value_of_bytes 4 y h

  pub behind_head : drop 8 (bytes_of 4 x ++ bytes_of 4 y ++ rest) ≡ rest
  behind_head = drop_at (bytes_of 4 x ++ bytes_of 4 y) rest 8 head_length

pub head_back : (b : List ℕ) → 8 ≤ length b → All Byte b
    → bytes_of 4 (value_of (take 4 b)) ++ bytes_of 4 (value_of (take 4 (drop 4 b))) ≡ take 8 b
head_back b l h =
    ap₂ ◌++◌ (four_back b (omega arith) h) (four_back (drop 4 b) (omega (arith, length-drop 4 b)) (all_drop Byte 4 b h))
    ∙ sym (take-add 4 4 b)

-- numbers, to bytes and back, whatever stands behind them
pub numbers_back : (l rest : List ℕ) → Priced l → numbers_in (length l) (number_bytes l ++ rest) ≡ l
numbers_back [] rest h = numbers_none _
numbers_back (n ∷ l) rest h =
    let parts : number_bytes (n ∷ l) ++ rest ≡ bytes_of 4 n ++ (number_bytes l ++ rest) =
    ap (λ (r : List ℕ). r ++ rest) (number_bytes_more n l) ∙ append_assoc (bytes_of 4 n) (number_bytes l) rest in
    ap (numbers_in (suc (length l))) parts
    ∙ numbers_more (length l) (bytes_of 4 n ++ (number_bytes l ++ rest))
    ∙ ap₂ ◌∷◌
    (ap value_of (take_at (bytes_of 4 n) (number_bytes l ++ rest) 4 (length_bytes 4 n)) ∙ value_of_bytes 4 n (h 0))
    (ap (numbers_in (length l)) (drop_at (bytes_of 4 n) (number_bytes l ++ rest) 4 (length_bytes 4 n))
    ∙ numbers_back l rest (λ i. h (suc i)))

-- bytes, to numbers and back
pub number_bytes_back : (n : ℕ) (b : List ℕ) → 4 * n ≤ length b → All Byte b → number_bytes (numbers_in n b) ≡ take (4 * n) b
unfolding number_bytes numbers_in
number_bytes_back zero b l h = refl
number_bytes_back (suc n) b l h =
    let more : 4 + 4 * n ≡ 4 * suc n = omega arith in
    ap₂ ◌++◌ (four_back b (omega arith) h) (number_bytes_back n (drop 4 b) (omega (arith, length-drop 4 b)) (all_drop Byte 4 b h))
    ∙ sym (take-add 4 (4 * n) b)
    ∙ ap (λ (k : ℕ). take k b) more

pub numbers_Priced : (n : ℕ) (b : List ℕ) → All Byte b → Priced (numbers_in n b)
unfolding numbers_in
numbers_Priced zero b h i = omega arith
numbers_Priced (suc n) b h zero = four_small b h
numbers_Priced (suc n) b h (suc i) = numbers_Priced n (drop 4 b) (all_drop Byte 4 b h) i

-- a number among those that stand one behind another
pub number_at : (n : ℕ) (b : List ℕ) (i : ℕ) → i < n → get_or (numbers_in n b) i 0 ≡ value_of (take 4 (drop (4 * i) b))
unfolding numbers_in
number_at zero b i h = absurd (omega arith)
number_at (suc n) b zero h = refl
number_at (suc n) b (suc i) h =
    let next : 4 + 4 * i ≡ 4 * suc i = omega arith in
    number_at n (drop 4 b) i (omega arith)
    ∙ ap (λ (l : List ℕ). value_of (take 4 l)) (drop-drop (4 * i) 4 b ∙ ap (λ (m : ℕ). drop m b) next)
