-- Sheets (document 02, Q-5): "Each map with its number has exactly one sheet, and sheet and image of a state load alike."
-- Assumes nothing.
use Rattle.std.specs.Prelude.{◌≡◌, true, List, [], ℕ, ◌-◌, ◌/◌, ◌%◌, ◌^◌, ◌<◌, length, get_or}
use Rattle.entry.specs.Word.{offer_of, price_of}
use Rattle.changes.specs.Lists.{Map}
use Rattle.answers.specs.declared.call.Format.TheVariants.{Image, Sheet}
use Rattle.image.specs.Image.{image_of}
use Rattle.sheet.specs.Sheet.{Row, rows_of, set_bits, place_in, is_sheet, sheet_of, number_in, words_in}
use Rattle.unit.specs.Carried.{Carried}
use Rattle.history.specs.Plain.{load_of}
use Rattle.conditions.specs.CCalls.{Memory, Result, CallOfC}
use Rattle.conditions.specs.Serving.{Seen, CallOfServe, handed, loading}

-- bytes are a sheet of this number and map
abbrev pub Reads : List ℕ → ℕ → List ℕ → Type 0
Reads bytes number map = (is_sheet bytes ≡ true) × (number_in bytes ≡ number) × (words_in bytes ≡ map)

-- the k-th of some rows
abbrev pub row_at : List Row → ℕ → Row
row_at rows k = get_or rows k (record { number = 0; mask = 0; prices = [] })

pub record Sheets : Type 0 where
  -- "row number 26 bits .., a mask of 32 bits .., then one 32-bit price per set bit .. Rows rise strictly and no mask is zero."
  pub rows_of_map : (m : List ℕ) → Map m
      → ((k : ℕ) (r : Row) → k < length (rows_of m) → r ≡ row_at (rows_of m) k
      → (r.number < 2 ^ 26) × (0 < r.mask) × (r.mask < 2 ^ 32) × (length r.prices ≡ set_bits r.mask))
      × ((j k : ℕ) → j < k → k < length (rows_of m) → (row_at (rows_of m) j).number < (row_at (rows_of m) k).number)
  -- "offer = row × 32 + seat", "seat 0 most significant": each word of a map has its offer's row, in whose mask its seat's bit is set;
  -- and "the price of a seat stands after as many prices as set bits precede it"
  pub price_in_rows : (m : List ℕ) → Map m → (i w : ℕ) → i < length m → w ≡ get_or m i 0
      → (k : ℕ)
      × (r : Row)
      × (k < length (rows_of m))
      × (r ≡ row_at (rows_of m) k)
      × (r.number ≡ offer_of w / 32)
      × (r.mask / 2 ^ (31 - offer_of w % 32) % 2 ≡ 1)
      × (get_or r.prices (place_in r.mask (offer_of w % 32)) 0 ≡ price_of w)
  -- "Each map with its number has exactly one sheet": it is one, and any bytes that are a sheet of that number and map are it
  pub one_sheet : (n : ℕ) (m : List ℕ) → n < 2 ^ 32 → Map m
      → Reads (sheet_of n m) n m × ((b : List ℕ) → Reads b n m → b ≡ sheet_of n m)
  -- "sheet and image of a state load alike": into any memory with any depth, in answer, head, tally and all memory, accepted or refused
  pub load_alike : (k : Carried) (depth : ℕ) (words : List ℕ) (n : ℕ) (m : List ℕ) (s t : Seen) → n < 2 ^ 32 → length m < 2 ^ 16 → Map m
      → CallOfServe k (loading words (load_of depth Sheet (sheet_of n m))) s
      → CallOfServe k (loading words (load_of depth Image (image_of n m))) t
      → (s.reply ≡ t.reply) × (handed s ≡ handed t)
  pub c_load_alike : (m : Memory) (depth : ℕ) (words : List ℕ) (n : ℕ) (map : List ℕ) (r q : Result) → n < 2 ^ 32
      → length map < 2 ^ 16 → Map map
      → CallOfC m (loading words (load_of depth Sheet (sheet_of n map))) r
      → CallOfC m (loading words (load_of depth Image (image_of n map))) q
      → (r.code ≡ q.code) × (r.memory ≡ q.memory)
