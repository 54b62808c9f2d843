-- `reading::is_image` meets its contract. The loop's invariant: the words that are left are a map's from the last key on exactly
-- when the bytes are an image.
-- Assumes nothing.
use Rattle.image.proofs.ImageTest.{Keyed}
use Rattle.image.proofs.reading.is_image.Given as goal

abbrev pub invariant-loop-i : goal.invariant-loop-i
invariant-loop-i l = Keyed l.bytes l.last l.i
