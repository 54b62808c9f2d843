-- The formats in which a map and its state number are bytes: the image (document 01, "Image and listing"), and the sheet (document 02,
-- Q-5). Both begin with the state number.
-- Assumes nothing.
use Rattle.std.specs.Prelude.{Bool, cond, Option, Some, None, List, ℕ, ◌+◌, ◌*◌, length}
use Rattle.answers.specs.declared.call.Format.{Format}
use Rattle.answers.specs.declared.call.Format.TheVariants.{Image, Sheet}
use Rattle.image.specs.Image.{is_image, image_of, words_in as image_words}
use Rattle.sheet.specs.Sheet.{is_sheet, sheet_of, sheet_size, words_in as sheet_words}

-- ground 15: whether bytes are an image, or a sheet
abbrev pub is_of_format : Format → List ℕ → Bool
is_of_format Image b = is_image b
is_of_format Sheet b = is_sheet b

-- the words of the map in them
abbrev pub map_in : Format → List ℕ → List ℕ
map_in Image b = image_words b
map_in Sheet b = sheet_words b

-- how many offers they have, unless they are broken
abbrev pub offers_in : Format → List ℕ → Option ℕ
offers_in format b = cond (is_of_format format b) (Some (length (map_in format b))) None

-- the bytes of a state number and a map's words, and how many they are
abbrev pub bytes_for : Format → ℕ → List ℕ → List ℕ
bytes_for Image number words = image_of number words
bytes_for Sheet number words = sheet_of number words

abbrev pub size_for : Format → List ℕ → ℕ
size_for Image words = 6 + 8 * length words
size_for Sheet words = sheet_size words
