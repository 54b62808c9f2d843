-- The image of a map and its state number (document 01, "Image and listing"): "state number 32 bits, count 16 bits, then the
-- book's words, all most significant byte first; the length is exactly 6 + 8 × count."
-- Assumes nothing.
use Rattle.std.specs.Prelude.{Bool, ◌&&◌, List, [], ◌∷◌, ◌++◌, ℕ, zero, suc, ◌+◌, ◌*◌, eqb, leb, length, take, drop}
use Rattle.changes.specs.Lists.{is_map}
use Rattle.big_endian.specs.Bytes.{bytes_of, value_of}

-- the bytes of words, one word behind another
unfoldable pub word_bytes : List ℕ → List ℕ
word_bytes [] = []
word_bytes (w ∷ l) = bytes_of 8 w ++ word_bytes l

-- the image of a state number and a map's words
unfoldable pub image_of : ℕ → List ℕ → List ℕ
image_of number words = bytes_of 4 number ++ bytes_of 2 (length words) ++ word_bytes words

-- n words at the start of bytes
unfoldable pub words_of : ℕ → List ℕ → List ℕ
words_of zero b = []
words_of (suc n) b = value_of (take 8 b) ∷ words_of n (drop 8 b)

-- the state number, the count and the words in the bytes of an image
unfoldable pub number_in : List ℕ → ℕ
number_in b = value_of (take 4 b)

unfoldable pub count_in : List ℕ → ℕ
count_in b = value_of (take 2 (drop 4 b))

unfoldable pub words_in : List ℕ → List ℕ
words_in b = words_of (count_in b) (drop 6 b)

-- Bytes are an image unless their "length, order of offers or kind bits are wrong" (ground 15).
unfoldable pub is_image : List ℕ → Bool
is_image b = leb 6 (length b) && eqb (length b) (6 + 8 * count_in b) && is_map 0 (words_in b)
