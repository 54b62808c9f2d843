-- What the listing program prints for an image (document 01, "Image and listing").
-- Assumes nothing.
use Rattle.std.specs.Prelude.{◌≡◌, ◌≤◌, cond, List, ◌++◌, ℕ, ltb, length, drop}
use Rattle.std.specs.Io.KnownBytes.{Consumes}
use Rattle.std.specs.declared.option.Option.{Option}
use Rattle.answers.specs.Check.{Check}
use Rattle.std.specs.Prelude.{Ok, Err}
use Rattle.answers.specs.declared.call.Format.TheVariants.{Image}
use Rattle.answers.specs.First.{first}
use Rattle.answers.specs.Numbers.{number_of}
use Rattle.image.specs.Image.{number_in, words_in}
use Rattle.listing_text.specs.Listing.{text_of, refusal_text}
use Rattle.snapshot.specs.Snapshots.{load_grounds, load_table, load_journal}

-- the listing, or the line of the refusal
abbrev pub by_check : Check → List ℕ → List ℕ
by_check (Ok tt) image = text_of (number_in image) (words_in image)
by_check (Err r) image = refusal_text (number_of r)

-- "reads one image on standard input into a book of 8,000 words and prints"; "Input above 64,006 bytes is number 15." It loads with
-- depth 0.
unfoldable pub report_of : List ℕ → List ℕ
report_of image = cond (ltb 64006 (length image)) (refusal_text 15) (by_check (first (load_grounds 8000 1 0 Image image)) image)

-- the memory lent to it: loaded, unless the input is too long to be read
abbrev pub table_after : List ℕ → List ℕ → List ℕ → List ℕ
table_after table journal image = cond (ltb 64006 (length image)) table (load_table table journal 0 Image image)

abbrev pub journal_after : List ℕ → List ℕ → List ℕ → List ℕ
journal_after table journal image = cond (ltb 64006 (length image)) journal (load_journal table journal 0 Image image)

-- a text at the start of bytes, whose other bytes are as they were
pub record Rendered (text bytes last : List ℕ) (n : ℕ) : Type 0 where
  pub size : n ≡ length text
  pub bytes_are : last ≡ text ++ drop n bytes

-- at most so many of the known bytes of a reader were taken
abbrev pub TakesAtMost : Option (List ℕ) → Option (List ℕ) → ℕ → Type 0
TakesAtMost before after most = (taken : List ℕ) × Consumes before after taken × (length taken ≤ most)
