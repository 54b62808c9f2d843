-- The definitions of the sheet, clause by clause, as equations.
-- Assumes nothing.
use mathlib.Core.Path.{◌≡◌, refl}
use mathlib.Core.Bool.{◌&&◌}
use mathlib.Core.List.{List, [], ◌∷◌, ◌++◌}
use Prim.Native.Nat.{ℕ, suc, ◌+◌, ◌-◌, ◌*◌, ◌/◌, ◌%◌, ◌^◌}
use borrow.Author.Tests.{eq-eqb, ne_eqb}
use lib.Dec.{eqb}
use lib.ListN.{length, take, drop}
use Rattle.big_endian.specs.Bytes.{bytes_of, value_of}
use Rattle.sheet.specs.Sheet.{Row, joined, rows_of, seat_word, seat_words, words_of_rows, number_bytes, row_bytes, rows_bytes}
use Rattle.sheet.specs.Sheet.{sheet_of, sheet_size, tag_in, mask_in, numbers_in, row_in, row_size, rows_in, is_row, are_rows, row_count_in, words_in}

-- the rows of words
pub rows_none : rows_of [] ≡ []
unfolding rows_of
rows_none = refl

pub rows_more : (w : ℕ) (m : List ℕ) → rows_of (w ∷ m) ≡ joined w (rows_of m)
unfolding rows_of
rows_more w m = refl

-- the words of a row's seats, and of rows
pub seats_none : (r : Row) → seat_words r 0 ≡ []
unfolding seat_words
seats_none r = refl

pub seats_set : (r : Row) (k : ℕ) → r.mask / 2 ^ k % 2 ≡ 1 → seat_words r (suc k) ≡ seat_word r (31 - k) ∷ seat_words r k
unfolding seat_words
seats_set r k e = rw (eq-eqb (r.mask / 2 ^ k % 2) 1 e)

pub seats_unset : (r : Row) (k : ℕ) → (r.mask / 2 ^ k % 2 ≡ 1 → ⊥) → seat_words r (suc k) ≡ seat_words r k
unfolding seat_words
seats_unset r k n = rw (ne_eqb (r.mask / 2 ^ k % 2) 1 n)

pub words_none : words_of_rows [] ≡ []
unfolding words_of_rows
words_none = refl

pub words_more : (r : Row) (rs : List Row) → words_of_rows (r ∷ rs) ≡ seat_words r 32 ++ words_of_rows rs
unfolding words_of_rows
words_more r rs = refl

-- the bytes of numbers, of a row and of rows
pub number_bytes_none : number_bytes [] ≡ []
unfolding number_bytes
number_bytes_none = refl

pub number_bytes_more : (n : ℕ) (l : List ℕ) → number_bytes (n ∷ l) ≡ bytes_of 4 n ++ number_bytes l
unfolding number_bytes
number_bytes_more n l = refl

pub row_bytes_parts : (r : Row) → row_bytes r ≡ bytes_of 4 (r.number * 64) ++ bytes_of 4 r.mask ++ number_bytes r.prices
unfolding row_bytes
row_bytes_parts r = refl

pub rows_bytes_none : rows_bytes [] ≡ []
unfolding rows_bytes
rows_bytes_none = refl

pub rows_bytes_more : (r : Row) (rs : List Row) → rows_bytes (r ∷ rs) ≡ row_bytes r ++ rows_bytes rs
unfolding rows_bytes
rows_bytes_more r rs = refl

-- the sheet and its length
pub sheet_parts : (n : ℕ) (m : List ℕ) → sheet_of n m ≡ bytes_of 4 n ++ bytes_of 4 (length (rows_of m)) ++ rows_bytes (rows_of m)
unfolding sheet_of
sheet_parts n m = refl

pub sheet_size_lem : (m : List ℕ) → sheet_size m ≡ 8 + 8 * length (rows_of m) + 4 * length m
unfolding sheet_size
sheet_size_lem m = refl

-- numbers and rows in bytes
pub numbers_none : (b : List ℕ) → numbers_in 0 b ≡ []
unfolding numbers_in
numbers_none b = refl

pub numbers_more : (n : ℕ) (b : List ℕ) → numbers_in (suc n) b ≡ value_of (take 4 b) ∷ numbers_in n (drop 4 b)
unfolding numbers_in
numbers_more n b = refl

pub rows_in_none : (b : List ℕ) → rows_in 0 b ≡ []
unfolding rows_in
rows_in_none b = refl

pub rows_in_more : (n : ℕ) (b : List ℕ) → rows_in (suc n) b ≡ row_in b ∷ rows_in n (drop (row_size (mask_in b)) b)
unfolding rows_in
rows_in_more n b = refl

-- the words of the rows in bytes
abbrev pub left_words : ℕ → List ℕ → List ℕ
left_words n b = words_of_rows (rows_in n b)

pub left_none : (b : List ℕ) → left_words 0 b ≡ []
unfolding words_of_rows rows_in
left_none b = refl

pub left_more : (n : ℕ) (b : List ℕ) → left_words (suc n) b ≡ seat_words (row_in b) 32 ++ left_words n (drop (row_size (mask_in b)) b)
unfolding words_of_rows rows_in
left_more n b = refl

-- the test of rows
pub test_none : (least : ℕ) (b : List ℕ) → are_rows 0 least b ≡ eqb (length b) 0
unfolding are_rows
test_none least b = refl

pub test_more : (n least : ℕ) (b : List ℕ) → are_rows (suc n) least b
    ≡ (is_row least b && are_rows n (tag_in b / 64 + 1) (drop (row_size (mask_in b)) b))
unfolding are_rows
test_more n least b = refl

-- the words of a sheet, and its count of rows, as it is read
pub words_in_lem : (b : List ℕ) → words_in b ≡ left_words (row_count_in b) (drop 8 b)
unfolding words_in
words_in_lem b = refl

pub count_read : (b : List ℕ) {rows : ℕ} → rows ≡ value_of (take 4 (drop 4 b)) → rows ≡ row_count_in b
unfolding row_count_in
count_read b e = e
