-- The definitions on examples: what is written, what is read, and what is broken. Each is computed from the definitions alone.
-- Assumes nothing.
use mathlib.Core.Path.{◌≡◌, refl}
use mathlib.Core.Bool.{true, false}
use mathlib.Core.List.{List, [], ◌∷◌, ◌++◌, map}
use Prim.Native.Nat.{ℕ, zero, suc, ◌+◌, ◌-◌, ◌^◌}
use lib.Count.{ones_in}
use Rattle.entry.specs.Word.{put_of}
use Rattle.big_endian.specs.Bytes.{bytes_of, value_of}
use Rattle.sheet.specs.Sheet.{rows_of, set_bits, seat_words, words_of_rows, number_bytes, row_bytes, rows_bytes, sheet_of}
use Rattle.sheet.specs.Sheet.{row_count_in, numbers_in, rows_in, words_in, is_row, are_rows, are_bytes, is_sheet}

-- numbers of 32 bits as bytes
abbrev of32 : List ℕ → List ℕ
of32 [] = []
of32 (n ∷ l) = bytes_of 4 n ++ of32 l

-- Offer 5 at 1200 in state 7, byte for byte: row 0 with seat 5.
pub one_offer : sheet_of 7 (put_of 5 1200 ∷ [])
    ≡ 0x00 ∷ 0x00 ∷ 0x00 ∷ 0x07
    ∷ 0x00 ∷ 0x00 ∷ 0x00 ∷ 0x01
    ∷ 0x00 ∷ 0x00 ∷ 0x00 ∷ 0x00
    ∷ 0x04 ∷ 0x00 ∷ 0x00 ∷ 0x00
    ∷ 0x00 ∷ 0x00 ∷ 0x04 ∷ 0xB0 ∷ []
unfolding sheet_of rows_of rows_bytes row_bytes number_bytes bytes_of
one_offer = refl

-- The first row and the last, each with its seat 31.
pub last_row : sheet_of 8 (put_of 5 1200 ∷ put_of 31 4 ∷ put_of (2 ^ 31 - 1) 3 ∷ [])
    ≡ of32 (8 ∷ 2 ∷ 0 ∷ 0x04000001 ∷ 1200 ∷ 4 ∷ 0xFFFFFFC0 ∷ 0x00000001 ∷ 3 ∷ [])
unfolding sheet_of rows_of rows_bytes row_bytes number_bytes bytes_of
last_row = refl

-- The map without an offer.
pub no_offer : sheet_of 9 [] ≡ of32 (9 ∷ 0 ∷ [])
unfolding sheet_of rows_of rows_bytes row_bytes number_bytes bytes_of
no_offer = refl

-- Offers 31 and 32 are in two rows, offers 32 and 63 in one.
pub two_rows : sheet_of 3 (put_of 31 1 ∷ put_of 32 2 ∷ [])
    ≡ of32 (0x00000003 ∷ 0x00000002 ∷ 0x00000000 ∷ 0x00000001 ∷ 0x00000001 ∷ 0x00000040 ∷ 0x80000000 ∷ 0x00000002 ∷ [])
unfolding sheet_of rows_of rows_bytes row_bytes number_bytes bytes_of
two_rows = refl

pub one_row : sheet_of 2 (put_of 32 1 ∷ put_of 63 2 ∷ [])
    ≡ of32 (0x00000002 ∷ 0x00000001 ∷ 0x00000040 ∷ 0x80000001 ∷ 0x00000001 ∷ 0x00000002 ∷ [])
unfolding sheet_of rows_of rows_bytes row_bytes number_bytes bytes_of
one_row = refl

-- Read: the mask B0000000 has the seats 0, 2 and 3; the first row and the last again.
pub seats_read : words_in (of32 (1 ∷ 1 ∷ 64 ∷ 0xB0000000 ∷ 10 ∷ 20 ∷ 30 ∷ [])) ≡ put_of 32 10 ∷ put_of 34 20 ∷ put_of 35 30 ∷ []
unfolding words_in words_of_rows rows_in numbers_in seat_words set_bits ones_in row_count_in bytes_of value_of
seats_read = refl

pub last_read : words_in (of32 (8 ∷ 2 ∷ 0 ∷ 0x04000001 ∷ 1200 ∷ 4 ∷ 0xFFFFFFC0 ∷ 0x00000001 ∷ 3 ∷ []))
    ≡ put_of 5 1200 ∷ put_of 31 4 ∷ put_of (2 ^ 31 - 1) 3 ∷ []
unfolding words_in words_of_rows rows_in numbers_in seat_words set_bits ones_in row_count_in bytes_of value_of
last_read = refl

-- A full row: all 32 seats of row 3, at the prices 1 to 32.
abbrev full_row : ℕ → List ℕ
full_row zero = []
full_row (suc k) = put_of (96 + (31 - k)) (32 - k) ∷ full_row k

abbrev rising : ℕ → List ℕ
rising zero = []
rising (suc k) = (32 - k) ∷ rising k

pub full_written : sheet_of 5 (full_row 32) ≡ of32 (5 ∷ 1 ∷ 192 ∷ 0xFFFFFFFF ∷ rising 32)
unfolding sheet_of rows_of rows_bytes row_bytes number_bytes bytes_of
full_written = refl

pub full_read : words_in (of32 (5 ∷ 1 ∷ 192 ∷ 0xFFFFFFFF ∷ rising 32)) ≡ full_row 32
unfolding words_in words_of_rows rows_in numbers_in seat_words set_bits ones_in row_count_in bytes_of value_of
full_read = refl

-- Sheets: the rows 0 and 2 ^ 26 - 1; no row; an offer at the price 0.
pub sheets : map is_sheet (
    of32 (8 ∷ 2 ∷ 0 ∷ 0x04000001 ∷ 1200 ∷ 4 ∷ 0xFFFFFFC0 ∷ 0x00000001 ∷ 3 ∷ [])
    ∷ of32 (9 ∷ 0 ∷ [])
    ∷ of32 (9 ∷ 1 ∷ 0 ∷ 1 ∷ 0 ∷ [])
    ∷ []) ≡ true ∷ true ∷ true ∷ []
unfolding is_sheet are_bytes are_rows is_row row_count_in set_bits ones_in bytes_of value_of
sheets = refl

-- Broken: no header; bytes behind a sheet of no row; a mask of zero; the last and the first of the six bits behind a row's number set; a
-- row fewer than counted; two rows of one number; a row below the one before it; a price fewer than the mask has set bits; a price more; a
-- byte more.
pub broken : map is_sheet (
    []
    ∷ of32 (9 ∷ 0 ∷ 0 ∷ [])
    ∷ of32 (9 ∷ 1 ∷ 0 ∷ 0 ∷ [])
    ∷ of32 (9 ∷ 1 ∷ 0x00000001 ∷ 1 ∷ 1 ∷ [])
    ∷ of32 (9 ∷ 1 ∷ 0x00000020 ∷ 1 ∷ 1 ∷ [])
    ∷ of32 (9 ∷ 2 ∷ 0 ∷ 1 ∷ 1 ∷ [])
    ∷ of32 (9 ∷ 2 ∷ 0 ∷ 1 ∷ 1 ∷ 0 ∷ 2 ∷ 1 ∷ [])
    ∷ of32 (9 ∷ 2 ∷ 64 ∷ 1 ∷ 1 ∷ 0 ∷ 2 ∷ 1 ∷ [])
    ∷ of32 (9 ∷ 1 ∷ 0 ∷ 3 ∷ 1 ∷ [])
    ∷ of32 (9 ∷ 1 ∷ 0 ∷ 1 ∷ 1 ∷ 0 ∷ [])
    ∷ (of32 (9 ∷ 1 ∷ 0 ∷ 1 ∷ 1 ∷ []) ++ (0 ∷ []))
    ∷ []) ≡ false ∷ false ∷ false ∷ false ∷ false ∷ false ∷ false ∷ false ∷ false ∷ false ∷ false ∷ []
unfolding is_sheet are_bytes are_rows is_row row_count_in set_bits ones_in bytes_of value_of
broken = refl
