-- The text of a listing (document 01, "Image and listing"): "State and count in the first line, then offer and price per line,
-- decimal, each line ended by a newline. A refusal prints only the line `refused`, a space and its number."
-- Assumes nothing.
use Rattle.std.specs.Prelude.{List, ◌++◌, ℕ, length, codes}
use Rattle.std.specs.List.{flat_map}
use Rattle.entry.specs.Word.{offer_of, price_of}
use Rattle.listing_text.specs.Decimal.{decimal_of}

-- the first line: the state number and the count of offers
unfoldable pub header_of : ℕ → ℕ → List ℕ
header_of number count = codes "state " ++ decimal_of number ++ codes " offers " ++ decimal_of count ++ codes "\n"

-- the line of a word: its offer and its price
unfoldable pub line_of : ℕ → List ℕ
line_of w = decimal_of (offer_of w) ++ codes " " ++ decimal_of (price_of w) ++ codes "\n"

-- the lines of words
unfoldable pub lines_of : List ℕ → List ℕ
lines_of words = flat_map line_of words

-- the listing of a state number and a map's words
unfoldable pub text_of : ℕ → List ℕ → List ℕ
text_of number words = header_of number (length words) ++ lines_of words

-- the line of a refusal
unfoldable pub refusal_text : ℕ → List ℕ
refusal_text number = codes "refused " ++ decimal_of number ++ codes "\n"
