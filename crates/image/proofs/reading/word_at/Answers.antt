-- `reading::word_at` meets its contract: eight bytes are twice four.
-- Assumes nothing.
use Rattle.std.proofs.Common.{arith}
use Rattle.image.proofs.Halves.{eight_at}
use Rattle.image.proofs.reading.word_at.Goals as goal

pub returns : goal.returns
returns c = omega (arith, c.uint_at.ensures.0, eight_at c.args.bytes.now c.args.at c.requires)
