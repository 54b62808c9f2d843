-- `writing::write` meets its contract. The loop's invariant: what is written so far and the bytes of the words that are left
-- make the header and the bytes of all words.
-- Assumes nothing.
use mathlib.Core.Path.{◌≡◌, ◌∙◌, refl, ap}
use mathlib.Core.List.{◌++◌}
use Prim.Native.Nat.{ℕ, ◌+◌, ◌*◌}
use lib.ListN.{length, drop, get_or}
use Rattle.words.proofs.Writing.{unwritten}
use Rattle.big_endian.specs.Bytes.{bytes_of}
use Rattle.image.specs.Image.{word_bytes, image_of}
use Rattle.big_endian.proofs.Bytes.{length_bytes}
use Rattle.words.proofs.Pieces.{wrote_piece, continued, completed}
use Rattle.image.proofs.Storing.{header_stored}
use Rattle.image.proofs.Words.{word_bytes_next, word_bytes_end}
use native.Mathlib.Omega.{arith}
use Rattle.image.proofs.writing.write.Goals as goal

pub loop-i-preserved : goal.loop-i-preserved
loop-i-preserved c =
    let args = c.args in
    let next : 6 + 8 * (c.loop-i.i + 1) ≡ 6 + 8 * c.loop-i.i + 8 = omega arith in (
      omega arith,
      rw next
          (wrote_piece c.loop-i.invariant.1 (bytes_of 8 (get_or args.words.now c.loop-i.i 0))
          (word_bytes (drop (c.loop-i.i + 1) args.words.now))
          (word_bytes_next args.words.now c.loop-i.i c.loop-i-test.true) (6 + 8 * c.loop-i.i + 8)
          (omega (arith, length_bytes 8 (get_or args.words.now c.loop-i.i 0))) (omega arith) c.put_uint-in-loop-i.ensures),
    )

pub returns : goal.returns
returns c =
    let args = c.args in
    let end : c.loop-i.i ≡ length args.words.now = omega arith in
    let header = header_stored args.out.now args.state args.words.now (omega arith) _ _
    (rw c.from.ensures at c.put_uint.ensures) c.put_uint-2.ensures in
    let words = unwritten c.loop-i.invariant.1 (word_bytes_end args.words.now c.loop-i.i c.loop-i-test.false) in (
      refl,
      completed (continued header words (omega arith))
          ∙ ap (λ (n : ℕ). image_of args.state args.words.now ++ drop (6 + 8 * n) args.out.now) end,
    )
