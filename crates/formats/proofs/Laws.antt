-- What holds of both formats: bytes and the number and map in them determine each other.
-- Assumes nothing.
use mathlib.Core.Path.{◌≡◌, refl, ap, ◌∙◌}
use mathlib.Core.Bool.{true}
use mathlib.Core.List.{List}
use Prim.Native.Nat.{ℕ, ◌^◌, ◌≤◌, ◌<◌}
use native.Mathlib.Omega.{arith}
use lib.ListN.{length}
use Rattle.changes.specs.Lists.{All, Map}
use Rattle.answers.specs.declared.call.Format.{Format}
use Rattle.answers.specs.declared.call.Format.TheVariants.{Image, Sheet}
use Rattle.big_endian.specs.Bytes.{Byte}
use Rattle.image.specs.Image.{number_in}
use Rattle.image.proofs.ImageTest.{Image-facts}
use Rattle.image.proofs.RoundTrip.{image_length}
use Rattle.image.proofs.Theorems as images
use Rattle.sheet.specs.Sheet.{number_in as sheet_number, sheet_of, words_in}
use Rattle.sheet.proofs.SheetTest.{Sheet-facts}
use Rattle.sheet.proofs.Theorems as sheets
use Rattle.formats.specs.Formats.{is_of_format, map_in, bytes_for, size_for}

-- both begin with the state number
same_number : (b : List ℕ) → number_in b ≡ sheet_number b
unfolding number_in sheet_number
same_number b = refl

-- What is accepted holds a map, and begins with four bytes.
pub accepted_is_Map : (f : Format) (b : List ℕ) → is_of_format f b ≡ true → Map (map_in f b)
accepted_is_Map Image b e = images.accepted_is_Map b e
accepted_is_Map Sheet b e = sheets.accepted_is_Map b e

pub has_number : (f : Format) (b : List ℕ) → is_of_format f b ≡ true → 4 ≤ length b
has_number Image b e = omega (arith, (Image-facts b e).long)
has_number Sheet b e = omega (arith, (Sheet-facts b e).long)

-- What is written is accepted, and reads back as the same number and map.
pub written_reads_back : (f : Format) (n : ℕ) (m : List ℕ) → n < 2 ^ 32 → length m < 2 ^ 16 → Map m
    → (is_of_format f (bytes_for f n m) ≡ true)
    × (number_in (bytes_for f n m) ≡ n) × (map_in f (bytes_for f n m) ≡ m)
written_reads_back Image n m s l h = images.written_reads_back n m s l h
written_reads_back Sheet n m s l h =
    let back = sheets.written_reads_back n m s h in
    (back.0, same_number (sheet_of n m) ∙ back.1, back.2)

-- What is accepted is written back byte for byte.
pub accepted_writes_back : (f : Format) (b : List ℕ) → All Byte b → is_of_format f b ≡ true → bytes_for f (number_in b) (map_in f b) ≡ b
accepted_writes_back Image b h e = images.accepted_writes_back b h e
accepted_writes_back Sheet b h e = ap (λ (n : ℕ). sheet_of n (words_in b)) (same_number b) ∙ sheets.accepted_writes_back b e

-- the length of what is written
pub bytes_length : (f : Format) (n : ℕ) (m : List ℕ) → length (bytes_for f n m) ≡ size_for f m
bytes_length Image n m = image_length n m
bytes_length Sheet n m = sheets.sheet_length n m
