-- The sheet of a map and its state number (document 02, Q-5): "Box offices exchange prices by row, 32 seats to a row: offer = row × 32 +
-- seat, seat 0 to 31. A sheet is a state number of 32 bits and a count of rows of 32 bits, then for each row: row number 26 bits, six zero
-- bits, a mask of 32 bits with seat 0 most significant, then one 32-bit price per set bit in seat order, all most significant byte first,
-- the length exact. Rows rise strictly and no mask is zero."
-- Assumes nothing.
use Rattle.std.specs.Prelude.{Bool, true, cond, not, ◌&&◌, List, [], ◌∷◌, ◌++◌, ℕ, zero, suc, ◌+◌, ◌-◌, ◌*◌, ◌/◌, ◌%◌, ◌^◌, eqb, leb, ltb, length, take, drop, get_or}
use Rattle.std.specs.Int.Count.{ones_in}
use Rattle.entry.specs.Word.{offer_of, price_of, put_of}
use Rattle.big_endian.specs.Bytes.{bytes_of, value_of}

-- a row: its number, its mask, and the prices of the mask's set bits in seat order
pub record Row : Type 0 where
  pub number : ℕ
  pub mask : ℕ
  pub prices : List ℕ

-- "offer = row × 32 + seat": the row of an offer, and the bit of its seat, "seat 0 most significant"
abbrev pub row_of : ℕ → ℕ
row_of offer = offer / 32

abbrev pub seat_bit : ℕ → ℕ
seat_bit offer = 2 ^ (31 - offer % 32)

-- The rows of a map's words, from the last word to the first: a word joins the row behind it if that row is its own, or else begins one.
abbrev pub alone : ℕ → Row
alone w = record { number = row_of (offer_of w); mask = seat_bit (offer_of w); prices = price_of w ∷ [] }

abbrev pub extended : ℕ → Row → Row
extended w r = record { number = r.number; mask = seat_bit (offer_of w) + r.mask; prices = price_of w ∷ r.prices }

abbrev pub joined : ℕ → List Row → List Row
joined w [] = alone w ∷ []
joined w (r ∷ rs) = cond (eqb (row_of (offer_of w)) r.number) (extended w r ∷ rs) (alone w ∷ r ∷ rs)

unfoldable pub rows_of : List ℕ → List Row
rows_of [] = []
rows_of (w ∷ m) = joined w (rows_of m)

-- how many of a number's 32 bits are set
unfoldable pub set_bits : ℕ → ℕ
set_bits n = ones_in 32 n

-- "In a row, the price of a seat stands after as many prices as set bits precede it."
abbrev pub place_in : ℕ → ℕ → ℕ
place_in mask seat = set_bits (mask / 2 ^ (32 - seat))

-- the word that shows the price of a row's seat
abbrev pub seat_word : Row → ℕ → ℕ
seat_word r seat = put_of (r.number * 32 + seat) (get_or r.prices (place_in r.mask seat) 0)

-- the words of a row's last k seats, one for each set bit
unfoldable pub seat_words : Row → ℕ → List ℕ
seat_words r zero = []
seat_words r (suc k) = cond (eqb (r.mask / 2 ^ k % 2) 1) (seat_word r (31 - k) ∷ seat_words r k) (seat_words r k)

-- the map of some rows: the words of all 32 seats of each
unfoldable pub words_of_rows : List Row → List ℕ
words_of_rows [] = []
words_of_rows (r ∷ rs) = seat_words r 32 ++ words_of_rows rs

-- numbers of 32 bits, one behind another
unfoldable pub number_bytes : List ℕ → List ℕ
number_bytes [] = []
number_bytes (n ∷ l) = bytes_of 4 n ++ number_bytes l

-- a row's bytes: "row number 26 bits, six zero bits, a mask of 32 bits .., then one 32-bit price per set bit in seat order"
unfoldable pub row_bytes : Row → List ℕ
row_bytes r = bytes_of 4 (r.number * 64) ++ bytes_of 4 r.mask ++ number_bytes r.prices

unfoldable pub rows_bytes : List Row → List ℕ
rows_bytes [] = []
rows_bytes (r ∷ rs) = row_bytes r ++ rows_bytes rs

-- the sheet of a state number and a map's words
unfoldable pub sheet_of : ℕ → List ℕ → List ℕ
sheet_of number words = bytes_of 4 number ++ bytes_of 4 (length (rows_of words)) ++ rows_bytes (rows_of words)

-- its length: a header, a header a row, and a price a word
unfoldable pub sheet_size : List ℕ → ℕ
sheet_size words = 8 + 8 * length (rows_of words) + 4 * length words

-- the state number and the count of rows in the bytes of a sheet
unfoldable pub number_in : List ℕ → ℕ
number_in b = value_of (take 4 b)

unfoldable pub row_count_in : List ℕ → ℕ
row_count_in b = value_of (take 4 (drop 4 b))

-- what stands at the start of a row's bytes: the number with six bits behind it, the mask, and as many prices as the mask has set bits
abbrev pub tag_in : List ℕ → ℕ
tag_in b = value_of (take 4 b)

abbrev pub mask_in : List ℕ → ℕ
mask_in b = value_of (take 4 (drop 4 b))

unfoldable pub numbers_in : ℕ → List ℕ → List ℕ
numbers_in zero b = []
numbers_in (suc n) b = value_of (take 4 b) ∷ numbers_in n (drop 4 b)

abbrev pub row_in : List ℕ → Row
row_in b = record { number = tag_in b / 64; mask = mask_in b; prices = numbers_in (set_bits (mask_in b)) (drop 8 b) }

-- how many bytes a row with this mask takes
abbrev pub row_size : ℕ → ℕ
row_size mask = 8 + 4 * set_bits mask

-- n rows at the start of bytes
unfoldable pub rows_in : ℕ → List ℕ → List Row
rows_in zero b = []
rows_in (suc n) b = row_in b ∷ rows_in n (drop (row_size (mask_in b)) b)

-- a row stands at the start of bytes: six zero bits behind its number, which is at least the one given, a mask that is not zero, and a
-- price for each set bit
unfoldable pub is_row : ℕ → List ℕ → Bool
is_row least b =
    leb 8 (length b)
    && eqb (tag_in b % 64) 0
    && leb least (tag_in b / 64)
    && not (eqb (mask_in b) 0)
    && leb (row_size (mask_in b)) (length b)

-- bytes are n rows, each above the one before it, the first at least the number given, and nothing behind them: "Rows rise strictly and no
-- mask is zero", "the length exact"
unfoldable pub are_rows : ℕ → ℕ → List ℕ → Bool
are_rows zero least b = eqb (length b) 0
are_rows (suc n) least b = is_row least b && are_rows n (tag_in b / 64 + 1) (drop (row_size (mask_in b)) b)

-- numbers that are bytes
unfoldable pub are_bytes : List ℕ → Bool
are_bytes [] = true
are_bytes (n ∷ b) = ltb n 256 && are_bytes b

-- "A broken sheet is 15": bytes are a sheet, or broken
unfoldable pub is_sheet : List ℕ → Bool
is_sheet b = are_bytes b && leb 8 (length b) && are_rows (row_count_in b) 0 (drop 8 b)

-- the words of a sheet's map
unfoldable pub words_in : List ℕ → List ℕ
words_in b = words_of_rows (rows_in (row_count_in b) (drop 8 b))
