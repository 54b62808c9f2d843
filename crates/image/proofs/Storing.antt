-- An image as it is stored field by field.
-- Assumes nothing.
use mathlib.Core.Path.{◌≡◌, refl, ◌∙◌}
use mathlib.Core.List.{List, ◌++◌, append_assoc}
use Prim.Native.Nat.{ℕ, ◌≤◌}
use native.Mathlib.Omega.{arith}
use lib.ListN.{length, take, drop}
use Rattle.words.proofs.Writing.{Writing, start}
use Rattle.big_endian.specs.Bytes.{bytes_of}
use Rattle.image.specs.Image.{word_bytes, image_of}
use Rattle.big_endian.proofs.Bytes.{length_bytes}
use Rattle.words.proofs.Pieces.{wrote_piece}
use Rattle.image.proofs.Words.{image_parts}

-- the state number and the count stand before the words
module _ (out : List ℕ) (state : ℕ) (words : List ℕ) (room : 6 ≤ length out) (mid last : List ℕ) where
  pub header_stored :
      mid ≡ bytes_of 4 state ++ drop 4 out
      → last ≡ take 4 mid ++ bytes_of 2 (length words) ++ drop 6 mid
      → Writing last out 6 (word_bytes words) (image_of state words)
  header_stored e f =
      let rest = bytes_of 2 (length words) ++ word_bytes words in
      let whole = image_parts state words ∙ append_assoc (bytes_of 4 state) (bytes_of 2 (length words)) (word_bytes words) in
      let first = wrote_piece (start out (image_of state words)) (bytes_of 4 state) rest whole 4
      (omega (arith, length_bytes 4 state)) (omega arith) e in
      wrote_piece first (bytes_of 2 (length words)) (word_bytes words) refl 6
      (omega (arith, length_bytes 2 (length words))) (omega (arith, first.same)) f
