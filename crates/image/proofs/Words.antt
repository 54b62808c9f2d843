-- The words of an image, one behind another in its bytes.
-- Assumes nothing.
use mathlib.Core.Path.{◌≡◌, refl, ap, ◌∙◌}
use mathlib.Core.List.{List, [], ◌∷◌, ◌++◌}
use Prim.Native.Nat.{ℕ, zero, suc, ◌+◌, ◌-◌, ◌*◌, ◌≤◌, ◌<◌}
use native.Mathlib.Omega.{arith}
use lib.ListN.{length, take, drop, get_or, length-append, drop_of_length-le}
use lib.Seq.{drop-drop}
use Rattle.words.proofs.Parts.{next}
use Rattle.big_endian.specs.Bytes.{bytes_of, value_of}
use Rattle.image.specs.Image.{word_bytes, image_of, words_of, count_in, words_in}
use Rattle.big_endian.proofs.Bytes.{length_bytes}

-- the bytes of words
pub word_bytes_none : word_bytes [] ≡ []
unfolding word_bytes
word_bytes_none = refl

pub word_bytes_more : (w : ℕ) (l : List ℕ) → word_bytes (w ∷ l) ≡ bytes_of 8 w ++ word_bytes l
unfolding word_bytes
word_bytes_more w l = refl

pub word_bytes_next : (l : List ℕ) (i : ℕ) → i < length l → word_bytes (drop i l) ≡ bytes_of 8 (get_or l i 0) ++ word_bytes (drop (i + 1) l)
word_bytes_next l i h = ap word_bytes (next l i h) ∙ word_bytes_more (get_or l i 0) (drop (i + 1) l)

pub word_bytes_end : (l : List ℕ) (i : ℕ) → length l ≤ i → word_bytes (drop i l) ≡ []
word_bytes_end l i h = ap word_bytes (drop_of_length-le l h) ∙ word_bytes_none

pub word_bytes-length : (l : List ℕ) → length (word_bytes l) ≡ 8 * length l
unfolding word_bytes
word_bytes-length [] = refl
word_bytes-length (w ∷ l) = length-append (bytes_of 8 w) (word_bytes l) ∙ omega (arith, length_bytes 8 w, word_bytes-length l)

pub image_parts : (n : ℕ) (l : List ℕ) → image_of n l ≡ bytes_of 4 n ++ bytes_of 2 (length l) ++ word_bytes l
unfolding image_of
image_parts n l = refl

-- words in bytes
pub words_none : (b : List ℕ) → words_of 0 b ≡ []
unfolding words_of
words_none b = refl

pub words_more : (n : ℕ) (b : List ℕ) → words_of (suc n) b ≡ value_of (take 8 b) ∷ words_of n (drop 8 b)
unfolding words_of
words_more n b = refl

pub words_length : (n : ℕ) (b : List ℕ) → length (words_of n b) ≡ n
unfolding words_of
words_length zero b = refl
words_length (suc n) b = ap suc (words_length n (drop 8 b))

-- as a loop meets them: the words from the i-th on
module _ (n : ℕ) (b : List ℕ) (i : ℕ) where
  pub words_next : i < n → words_of (n - i) (drop (6 + 8 * i) b) ≡ value_of (take 8 (drop (6 + 8 * i) b))
      ∷ words_of (n - (i + 1)) (drop (6 + 8 * (i + 1)) b)
  words_next h =
      let more : n - i ≡ suc (n - (i + 1)) = omega arith in
      let on : 6 + 8 * i + 8 ≡ 6 + 8 * (i + 1) = omega arith in
      ap (λ (m : ℕ). words_of m (drop (6 + 8 * i) b)) more
      ∙ words_more (n - (i + 1)) (drop (6 + 8 * i) b)
      ∙ ap (λ (r : List ℕ). value_of (take 8 (drop (6 + 8 * i) b)) ∷ words_of (n - (i + 1)) r)
      (drop-drop 8 (6 + 8 * i) b ∙ ap (λ (m : ℕ). drop m b) on)

  pub words_end : n ≤ i → words_of (n - i) (drop (6 + 8 * i) b) ≡ []
  words_end h =
      let none : n - i ≡ 0 = omega arith in
      ap (λ (m : ℕ). words_of m (drop (6 + 8 * i) b)) none ∙ words_none (drop (6 + 8 * i) b)

pub words_all : (b : List ℕ) → words_of (count_in b - 0) (drop 6 b) ≡ words_in b
unfolding words_in
words_all b =
    let all : count_in b - 0 ≡ count_in b = omega arith in
    ap (λ (m : ℕ). words_of m (drop 6 b)) all

pub words_in-length : (b : List ℕ) → length (words_in b) ≡ count_in b
unfolding words_in
words_in-length b = words_length (count_in b) (drop 6 b)
