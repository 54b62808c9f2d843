-- `reading::image_offers` meets its contract.
-- Assumes nothing.
use mathlib.Core.Path.{sym, ap, ◌∙◌}
use Rattle.std.specs.Prelude.{Some}
use Rattle.image.proofs.ImageTest.{Image-facts}
use Rattle.image.proofs.Words.{words_in-length}
use Rattle.formats.proofs.reading.image_offers.Goals as goal

pub count_of-requires : goal.count_of-requires
count_of-requires c = (Image-facts c.args.bytes.now (sym c.if-not-is_image.ensures)).long

pub returns : goal.returns
returns c = rw (sym c.if-not-is_image.ensures) (ap Some (c.count_of.ensures.0 ∙ sym (words_in-length c.args.bytes.now)))
