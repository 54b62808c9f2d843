-- What an image is worth: the map and the number of a state and the bytes of its image determine each other.
-- Assumes nothing.
use mathlib.Core.Path.{◌≡◌, sym, ap, ◌∙◌}
use mathlib.Core.Bool.{true}
use mathlib.Core.List.{List}
use Prim.Native.Nat.{ℕ, ◌^◌, ◌<◌}
use native.Mathlib.Omega.{arith}
use lib.ListN.{length}
use Rattle.changes.specs.Lists.{All, Map}
use Rattle.big_endian.specs.Bytes.{Byte}
use Rattle.image.specs.Image.{image_of, number_in, words_in, is_image}
use Rattle.image.proofs.ImageTest.{Image, Image-facts, facts_Image}
use Rattle.image.proofs.RoundTrip.{image_length, image_number, image_count, image_words, image_back}

-- What is accepted as an image holds a map.
pub accepted_is_Map : (b : List ℕ) → is_image b ≡ true → Map (words_in b)
accepted_is_Map b e = (Image-facts b e).map

-- What is written is accepted, and reads back as the same number and map.
pub written_reads_back : (n : ℕ) (m : List ℕ) → n < 2 ^ 32 → length m < 2 ^ 16 → Map m → (is_image (image_of n m) ≡ true)
    × (number_in (image_of n m) ≡ n) × (words_in (image_of n m) ≡ m)
written_reads_back n m s l h =
    let words = image_words n m l h.puts in
    let facts : Image (image_of n m) =
    record {
      long = omega (arith, image_length n m);
      size = omega (arith, image_length n m, image_count n m l);
      map = rw words h;
    }
    in
    (facts_Image (image_of n m) facts, image_number n m s, words)

-- What is accepted is written back byte for byte.
pub accepted_writes_back : (b : List ℕ) → All Byte b → is_image b ≡ true → image_of (number_in b) (words_in b) ≡ b
accepted_writes_back b h e = image_back b (Image-facts b e).size h

-- No two numbers or maps share an image.
pub image_injective : (n n' : ℕ) (m m' : List ℕ) → n < 2 ^ 32 → n' < 2 ^ 32 → length m < 2 ^ 16 → length m' < 2 ^ 16
    → Map m → Map m' → image_of n m ≡ image_of n' m' → (n ≡ n') × (m ≡ m')
image_injective n n' m m' s s' l l' h h' e =
    let one = written_reads_back n m s l h in
    let other = written_reads_back n' m' s' l' h' in
    (sym one.1 ∙ ap number_in e ∙ other.1, sym one.2 ∙ ap words_in e ∙ other.2)
