-- `reading::is_image` meets its contract. The loop's invariant: the words that are left are a map's from the last key on exactly
-- when the bytes are an image.
-- Assumes nothing.
use mathlib.Core.Path.{sym}
use Rattle.image.proofs.ImageTest.{Keyed-all, key_falls, key_rises, tested, image_short, image_missized}
use native.Mathlib.Omega.{arith}
use Rattle.image.proofs.reading.is_image.Goals as goal

pub returns-then-bytes-lt-HEADER_BYTES : goal.returns-then-bytes-lt-HEADER_BYTES
returns-then-bytes-lt-HEADER_BYTES c = sym (image_short c.args.bytes.now (omega arith))

pub returns-then-bytes-count : goal.returns-then-bytes-count
returns-then-bytes-count c = sym (image_missized c.args.bytes.now (omega arith) (λ e. omega arith))

pub loop-i-init : goal.loop-i-init
loop-i-init c = Keyed-all _ (omega arith) (omega arith)

pub returns-then-key-last : goal.returns-then-key-last
returns-then-key-last c = sym (key_falls c.loop-i.invariant (omega arith) c.word_at.result (omega arith)
    c.word_at.ensures (omega arith))

pub loop-i-preserved : goal.loop-i-preserved
loop-i-preserved c = rw c.key_of-key.ensures.0
    (key_rises c.loop-i.invariant (omega arith) c.word_at.result (omega arith)
    c.word_at.ensures (omega arith))

pub returns : goal.returns
returns c = sym (tested c.loop-i.invariant.tested (omega arith))
