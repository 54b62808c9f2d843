-- `numbers::uint_at` meets its contract.
-- Assumes nothing.
use borrow.Author.Rules.{rules}
use Rattle.std.proofs.lemmas.Iterator.{YieldsList-from_slice}
use Rattle.std.proofs.lemmas.Iterator.Consumers.{fold_from_yields_List}
use Rattle.big_endian.proofs.Fields.{with_byte, part_read}
use Rattle.big_endian.proofs.numbers.uint_at.Goals as goal

pub returns : goal.returns
returns g c =
    let read = fold_from_yields_List _ with_byte 0 c.fold.result c.fold.ensures.ran
    (YieldsList-from_slice _ c.iter.ensures.rest) (λ a x b q k. search rules) in
    part_read c.args.bytes.now c.args.at g.row.BYTES c.fold.result c.requires.0 c.requires.1 (λ i. (c.type_inv.bytes i).fits) read
