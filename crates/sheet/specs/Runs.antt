-- Words of one row, as the writer meets them in a map's words: what its functions say to each other. The sheet itself is in Sheet.antt.
-- Assumes nothing.
use Rattle.std.specs.Prelude.{◌≡◌, Bool, ◌&&◌, List, [], ◌∷◌, map, ℕ, ◌+◌, eqb, ltb, length, get_or}
use Rattle.entry.specs.Word.{offer_of, price_of}
use Rattle.sheet.specs.Sheet.{Row, row_of, seat_bit}

-- a word is of a row
abbrev pub InRow : ℕ → ℕ → Type 0
InRow number w = row_of (offer_of w) ≡ number

-- whether there is a word at a position, and it is of the row
abbrev pub is_of_row : List ℕ → ℕ → ℕ → Bool
is_of_row words i number = ltb i (length words) && eqb (row_of (offer_of (get_or words i 0))) number

-- the first word's row
abbrev pub row_number : List ℕ → ℕ
row_number run = row_of (offer_of (get_or run 0 0))

-- the sum of the words' bits
unfoldable pub bits_of : List ℕ → ℕ
bits_of [] = 0
bits_of (w ∷ run) = seat_bit (offer_of w) + bits_of run

-- the row of a run, words that are all of the first word's row
abbrev pub run_row : List ℕ → Row
run_row run = record { number = row_number run; mask = bits_of run; prices = map price_of run }
