-- What a sheet is worth: the map and the number of a state and the bytes of its sheet determine each other. And what its rows are worth:
-- each price of the map stands in the row of its offer, at the place of its seat.
-- Assumes nothing.
use mathlib.Core.Path.{◌≡◌, refl, sym, ap₂, subst, ◌∙◌}
use mathlib.Core.Bool.{true}
use mathlib.Core.List.{List}
use Prim.Native.Nat.{ℕ, ◌+◌, ◌-◌, ◌*◌, ◌/◌, ◌%◌, ◌^◌, ◌≤◌, ◌<◌}
use lib.ListN.{length, get_or}
use Rattle.entry.specs.Word.{offer_of, price_of}
use Rattle.changes.specs.Lists.{All, Map}
use Rattle.changes.proofs.Each.{all_at}
use Rattle.big_endian.specs.Bytes.{Byte}
use Rattle.sheet.specs.Sheet.{Row, rows_of, set_bits, place_in, sheet_of, sheet_size, number_in, row_count_in, words_in, is_sheet}
use Rattle.sheet.proofs.Bits.{set_bits_lem}
use Rattle.sheet.proofs.GoodRows.{GoodRow}
use Rattle.sheet.proofs.MapToRows.{words_back}
use Rattle.sheet.proofs.MapWords.{Map-Words}
use Rattle.sheet.proofs.RowsOfMap.{row_at, good_at, rise_at, Shown, rows_show}
use Rattle.sheet.proofs.SheetParts.{written_length, written_small, written_number, written_words, written_Sheet}
use Rattle.sheet.proofs.SheetParts.{map_rises, read_Map, read_number, read_long, read_back}
use Rattle.sheet.proofs.SheetTest.{Sheet-facts, facts_Sheet}

-- What is accepted as a sheet holds a map.
pub accepted_is_Map : (b : List ℕ) → is_sheet b ≡ true → Map (words_in b)
accepted_is_Map b e = read_Map b (Sheet-facts b e)

-- What is written is accepted, and reads back as the same number and map.
pub written_reads_back : (n : ℕ) (m : List ℕ) → n < 2 ^ 32 → Map m
    → (is_sheet (sheet_of n m) ≡ true) × (number_in (sheet_of n m) ≡ n) × (words_in (sheet_of n m) ≡ m)
written_reads_back n m s h = (facts_Sheet (sheet_of n m) (written_Sheet n m h), written_number n m s, written_words n m h)

-- What is accepted is written back byte for byte.
pub accepted_writes_back : (b : List ℕ) → is_sheet b ≡ true → sheet_of (number_in b) (words_in b) ≡ b
accepted_writes_back b e = read_back b (Sheet-facts b e)

-- Bytes are a sheet of this number and this map.
abbrev pub Reads : List ℕ → ℕ → List ℕ → Type 0
Reads b n m = (is_sheet b ≡ true) × (number_in b ≡ n) × (words_in b ≡ m)

-- "Each map with its number has exactly one sheet": the one that is written.
pub one_sheet : (n : ℕ) (m : List ℕ) → n < 2 ^ 32 → Map m → Reads (sheet_of n m) n m × ((b : List ℕ) → Reads b n m → b ≡ sheet_of n m)
one_sheet n m s h = (written_reads_back n m s h, λ b r. sym (accepted_writes_back b r.0) ∙ ap₂ sheet_of r.1 r.2)

-- What is written has the length that is said.
pub sheet_length : (n : ℕ) (m : List ℕ) → length (sheet_of n m) ≡ sheet_size m
sheet_length n m = written_length n m

-- The state number of what is accepted has 32 bits.
pub number_small : (b : List ℕ) → is_sheet b ≡ true → number_in b < 2 ^ 32
number_small b e = read_number b (Sheet-facts b e)

-- What is written is bytes.
pub sheet_bytes : (n : ℕ) (m : List ℕ) → All Byte (sheet_of n m)
sheet_bytes n m = written_small n m

-- A row takes at least twelve bytes, so a count of rows that the bytes cannot hold is broken.
pub count_least : (b : List ℕ) → is_sheet b ≡ true → 8 + 12 * row_count_in b ≤ length b
count_least b e = read_long b (Sheet-facts b e)

-- "row number 26 bits .., a mask of 32 bits .., then one 32-bit price per set bit .. Rows rise strictly and no mask is zero." The k-th of
-- some rows is `row_at rows k`.
pub rows_of-Map : (m : List ℕ) → Map m
    → ((k : ℕ) (r : Row) → k < length (rows_of m) → r ≡ row_at (rows_of m) k
    → (r.number < 2 ^ 26) × (0 < r.mask) × (r.mask < 2 ^ 32) × (length r.prices ≡ set_bits r.mask))
    × ((j k : ℕ) → j < k → k < length (rows_of m) → (row_at (rows_of m) j).number < (row_at (rows_of m) k).number)
rows_of-Map m h = (
  λ k r l e.
      let g = subst GoodRow (sym e) (good_at 0 (rows_of m) (map_rises m h) k l).0 in
      (g.small, g.some, g.fits, g.count ∙ sym (set_bits_lem r.mask g.fits)),
  rise_at 0 (rows_of m) (map_rises m h),
)

-- "offer = row × 32 + seat .. In a row, the price of a seat stands after as many prices as set bits precede it." So each word of a map has
-- its offer's row, in whose mask its seat's bit is set, and its price stands there after the prices of the seats before it.
pub price_in_rows : (m : List ℕ) → Map m → (i w : ℕ) → i < length m → w ≡ get_or m i 0
    → (k : ℕ)
    × (r : Row)
    × (k < length (rows_of m))
    × (r ≡ row_at (rows_of m) k)
    × (r.number ≡ offer_of w / 32)
    × (r.mask / 2 ^ (31 - offer_of w % 32) % 2 ≡ 1)
    × (get_or r.prices (place_in r.mask (offer_of w % 32)) 0 ≡ price_of w)
price_in_rows m h i w l e =
    let rows = rows_show 0 (rows_of m) (map_rises m h) in
    let words = subst (All (Shown (rows_of m))) (words_back 0 m (Map-Words m h)) rows in
    let s = subst (Shown (rows_of m)) (sym e) (all_at (Shown (rows_of m)) m 0 i words l) in
    (s.0, row_at (rows_of m) s.0, s.1, refl, s.2.0, s.2.1, s.2.2)
