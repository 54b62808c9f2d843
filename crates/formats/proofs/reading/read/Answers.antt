-- `reading::read` meets its contract.
-- Assumes nothing.
use native.Mathlib.Omega.{arith}
use Rattle.image.proofs.ImageTest.{Image-facts}
use Rattle.image.proofs.Words.{words_in-length}
use Rattle.formats.proofs.reading.read.Goals as goal

pub read_words-requires : goal.read_words-requires
read_words-requires c = let a = c.args in
    let p = rw c.in-Image.is at c.requires in
    (omega (arith, (Image-facts a.bytes.now p.0).size), omega (arith, words_in-length a.bytes.now, p.1))
