-- The bytes of words and the words of bytes, part by part, there and back.
-- Assumes nothing.
use mathlib.Core.Path.{◌≡◌, refl, sym, ap, ap₂, ◌∙◌}
use mathlib.Core.List.{List, [], ◌∷◌, ◌++◌, append_assoc}
use Prim.Native.Nat.{ℕ, zero, suc, ◌+◌, ◌*◌, ◌^◌, ◌≤◌, ◌<◌}
use native.Mathlib.Omega.{arith}
use lib.ListN.{length, take, drop, length-append, length-drop, take-append-drop}
use lib.Seq.{take_at, drop_at, take-add, length-take-le}
use Rattle.entry.specs.Word.{Put}
use Rattle.changes.specs.Lists.{All}
use Rattle.changes.proofs.Each.{all_take, all_drop}
use Rattle.big_endian.specs.Bytes.{bytes_of, value_of, Byte}
use Rattle.image.specs.Image.{word_bytes, image_of, words_of, number_in, count_in, words_in}
use Rattle.big_endian.proofs.Bytes.{length_bytes, value_of_bytes, bytes_of_value}
use Rattle.image.proofs.Words.{word_bytes-length, image_parts, words_in-length}

-- words, to bytes and back
pub words_back : (l : List ℕ) → All Put l → words_of (length l) (word_bytes l) ≡ l
unfolding words_of word_bytes All
words_back [] h = refl
words_back (w ∷ l) h =
    ap₂ ◌∷◌
    (ap value_of (take_at (bytes_of 8 w) (word_bytes l) 8 (length_bytes 8 w)) ∙ value_of_bytes 8 w (omega (arith, h.0)))
    (ap (words_of (length l)) (drop_at (bytes_of 8 w) (word_bytes l) 8 (length_bytes 8 w)) ∙ words_back l h.1)

-- bytes, to words and back
field_back : (k : ℕ) (b : List ℕ) → k ≤ length b → All Byte b → bytes_of k (value_of (take k b)) ≡ take k b
field_back k b l h =
    ap (λ (n : ℕ). bytes_of n (value_of (take k b))) (sym (length-take-le k b l)) ∙ bytes_of_value (take k b) (all_take Byte k b h)

no_bytes : (b : List ℕ) → length b ≡ 0 → [] ≡ b
no_bytes [] e = refl
no_bytes (x ∷ b) e = absurd (omega arith)

bytes_back : (n : ℕ) (b : List ℕ) → length b ≡ 8 * n → All Byte b → word_bytes (words_of n b) ≡ b
unfolding words_of word_bytes
bytes_back zero b e h = no_bytes b (omega arith)
bytes_back (suc n) b e h =
    ap₂ ◌++◌ (field_back 8 b (omega arith) h) (bytes_back n (drop 8 b) (omega (arith, length-drop 8 b)) (all_drop Byte 8 b h))
    ∙ take-append-drop 8 b

-- the fields of an image that is written
module _ (n : ℕ) (m : List ℕ) where
  head_length : length (bytes_of 4 n ++ bytes_of 2 (length m)) ≡ 6
  head_length = length-append (bytes_of 4 n) (bytes_of 2 (length m)) ∙ ap₂ ◌+◌ (length_bytes 4 n) (length_bytes 2 (length m))

  pub image_length : length (image_of n m) ≡ 6 + 8 * length m
  image_length =
      ap length (image_parts n m)
      ∙ length-append (bytes_of 4 n ++ bytes_of 2 (length m)) (word_bytes m)
      ∙ ap₂ ◌+◌ head_length (word_bytes-length m)

  behind_number : image_of n m ≡ bytes_of 4 n ++ (bytes_of 2 (length m) ++ word_bytes m)
  behind_number = image_parts n m ∙ append_assoc (bytes_of 4 n) (bytes_of 2 (length m)) (word_bytes m)

  pub image_number : n < 2 ^ 32 → number_in (image_of n m) ≡ n
  unfolding number_in
  image_number h =
      ap value_of (ap (take 4) behind_number ∙ take_at (bytes_of 4 n) _ 4 (length_bytes 4 n)) ∙ value_of_bytes 4 n h

  pub image_count : length m < 2 ^ 16 → count_in (image_of n m) ≡ length m
  unfolding count_in
  image_count h =
      ap (λ (r : List ℕ). value_of (take 2 r)) (ap (drop 4) behind_number ∙ drop_at (bytes_of 4 n) _ 4 (length_bytes 4 n))
      ∙ ap value_of (take_at (bytes_of 2 (length m)) (word_bytes m) 2 (length_bytes 2 (length m)))
      ∙ value_of_bytes 2 (length m) h

  pub image_words : length m < 2 ^ 16 → All Put m → words_in (image_of n m) ≡ m
  unfolding words_in
  image_words h p =
      ap₂ words_of (image_count h) (ap (drop 6) (image_parts n m)
      ∙ drop_at (bytes_of 4 n ++ bytes_of 2 (length m)) (word_bytes m) 6 head_length)
      ∙ words_back m p

-- the fields of an image that is read, and the image from them
module _ (b : List ℕ) (size : length b ≡ 6 + 8 * count_in b) (small : All Byte b) where
  number_back : bytes_of 4 (number_in b) ≡ take 4 b
  unfolding number_in
  number_back = field_back 4 b (omega arith) small

  count_back : bytes_of 2 (count_in b) ≡ take 2 (drop 4 b)
  unfolding count_in
  count_back = field_back 2 (drop 4 b) (omega (arith, length-drop 4 b)) (all_drop Byte 4 b small)

  words_in_back : word_bytes (words_in b) ≡ drop 6 b
  unfolding words_in
  words_in_back = bytes_back (count_in b) (drop 6 b) (omega (arith, length-drop 6 b)) (all_drop Byte 6 b small)

  pub image_back : image_of (number_in b) (words_in b) ≡ b
  image_back =
      image_parts (number_in b) (words_in b)
      ∙ ap₂ ◌++◌ (ap₂ ◌++◌ number_back (ap (bytes_of 2) (words_in-length b) ∙ count_back)) words_in_back
      ∙ ap (λ (r : List ℕ). r ++ drop 6 b) (sym (take-add 4 2 b))
      ∙ take-append-drop 6 b
