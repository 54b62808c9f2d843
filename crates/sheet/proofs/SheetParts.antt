-- The fields of a sheet that is written, and of one that is read.
-- Assumes nothing.
use mathlib.Core.Path.{◌≡◌, ap, ap₂, ◌∙◌}
use mathlib.Core.List.{List, ◌++◌}
use Prim.Native.Nat.{ℕ, ◌+◌, ◌*◌, ◌^◌, ◌≤◌, ◌<◌}
use native.Mathlib.Omega.{arith}
use lib.ListN.{length, drop, length-drop, take-append-drop}
use Rattle.changes.specs.Lists.{All, Map}
use Rattle.changes.proofs.Each.{all_drop}
use Rattle.big_endian.specs.Bytes.{bytes_of, Byte}
use Rattle.sheet.specs.Sheet.{Row, rows_of, words_of_rows, rows_bytes, rows_in, row_count_in, are_rows, sheet_of, sheet_size, number_in, words_in}
use Rattle.sheet.proofs.Clauses.{sheet_parts, sheet_size_lem, words_in_lem}
use Rattle.sheet.proofs.GoodRows.{Rising, rows_few}
use Rattle.sheet.proofs.MapToRows.{words_back, rows_rise}
use Rattle.sheet.proofs.MapWords.{Map-Words, Words-Map}
use Rattle.sheet.proofs.NumberBytes.{four_small, headed_length, headed_small, first_number, second_number, behind_head, head_back}
use Rattle.sheet.proofs.RowBytes.{rows_size, rows_bytes_small, rows_in-length, rows_read, rows_pass}
use Rattle.sheet.proofs.RowBytes.{rows_bytes_back, rows_good, rows_long}
use Rattle.sheet.proofs.RowsToMap.{rows_words, rows_back}
use Rattle.sheet.proofs.SheetTest.{Sheet}

-- a sheet of any words that is written
module _ (n : ℕ) (m : List ℕ) where
  pub written_length : length (sheet_of n m) ≡ sheet_size m
  written_length =
      ap length (sheet_parts n m)
      ∙ headed_length n (length (rows_of m)) (rows_bytes (rows_of m))
      ∙ omega (arith, rows_size m, sheet_size_lem m)

  pub written_small : All Byte (sheet_of n m)
  unfolding sheet_of
  written_small = headed_small n (length (rows_of m)) (rows_bytes (rows_of m)) (rows_bytes_small (rows_of m))

  pub written_number : n < 2 ^ 32 → number_in (sheet_of n m) ≡ n
  unfolding sheet_of number_in
  written_number h = first_number n (length (rows_of m)) (rows_bytes (rows_of m)) h

  written_rows : drop 8 (sheet_of n m) ≡ rows_bytes (rows_of m)
  written_rows = ap (drop 8) (sheet_parts n m) ∙ behind_head n (length (rows_of m)) (rows_bytes (rows_of m))

-- a map's rows rise, and their count has 32 bits
pub map_rises : (m : List ℕ) → Map m → Rising 0 (rows_of m)
map_rises m h = rows_rise 0 m (Map-Words m h)

rows_small : (m : List ℕ) → Map m → length (rows_of m) ≤ 2 ^ 26
rows_small m h = omega (arith, rows_few 0 (rows_of m) (map_rises m h) (omega arith))

-- a sheet of a map that is written
module _ (n : ℕ) (m : List ℕ) (h : Map m) where
  written_count : row_count_in (sheet_of n m) ≡ length (rows_of m)
  unfolding sheet_of row_count_in
  written_count = second_number n (length (rows_of m)) (rows_bytes (rows_of m)) (omega (arith, rows_small m h))

  pub written_words : words_in (sheet_of n m) ≡ m
  written_words =
      words_in_lem (sheet_of n m)
      ∙ ap words_of_rows (ap₂ rows_in written_count (written_rows n m) ∙ rows_read 0 (rows_of m) (map_rises m h))
      ∙ words_back 0 m (Map-Words m h)

  pub written_Sheet : Sheet (sheet_of n m)
  written_Sheet =
      record {
        small = written_small n m;
        long = omega (arith, written_length n m, sheet_size_lem m);
        rows = ap₂ (λ (k : ℕ) (b : List ℕ). are_rows k 0 b) written_count (written_rows n m) ∙ rows_pass 0 (rows_of m) (map_rises m h);
      }

-- a sheet that is read
module _ (b : List ℕ) (s : Sheet b) where
  abbrev rows : List Row
  rows = rows_in (row_count_in b) (drop 8 b)

  behind_small : All Byte (drop 8 b)
  behind_small = all_drop Byte 8 b s.small

  read_rising : Rising 0 rows
  read_rising = rows_good (row_count_in b) 0 (drop 8 b) s.rows behind_small

  pub read_Map : Map (words_in b)
  unfolding words_in
  read_Map = Words-Map (words_of_rows rows) (rows_words 0 rows read_rising)

  read_rows : rows_of (words_in b) ≡ rows
  read_rows = ap rows_of (words_in_lem b) ∙ rows_back 0 rows read_rising

  pub read_number : number_in b < 2 ^ 32
  unfolding number_in
  read_number = four_small b s.small

  pub read_long : 8 + 12 * row_count_in b ≤ length b
  read_long = omega (arith, s.long, rows_long (row_count_in b) 0 (drop 8 b) s.rows behind_small, length-drop 8 b)

  read_head : bytes_of 4 (number_in b) ++ bytes_of 4 (row_count_in b) ++ drop 8 b ≡ b
  unfolding number_in row_count_in
  read_head = ap (λ (h : List ℕ). h ++ drop 8 b) (head_back b s.long s.small) ∙ take-append-drop 8 b

  pub read_back : sheet_of (number_in b) (words_in b) ≡ b
  read_back =
      sheet_parts (number_in b) (words_in b)
      ∙ ap (λ (rs : List Row). bytes_of 4 (number_in b) ++ bytes_of 4 (length rs) ++ rows_bytes rs) read_rows
      ∙ ap₂ (λ (k : ℕ) (r : List ℕ). bytes_of 4 (number_in b) ++ bytes_of 4 k ++ r) (rows_in-length (row_count_in b) (drop 8 b))
      (rows_bytes_back (row_count_in b) 0 (drop 8 b) s.rows behind_small)
      ∙ read_head
