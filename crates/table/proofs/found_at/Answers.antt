-- `table::found_at` meets its contract.
-- Assumes nothing.
use Rattle.std.proofs.Common.{◌∙◌, length, sym, arith}
use borrow.Author.Tests.{le-ltb}
use Rattle.table.proofs.Sides.{none_found, found_there}
use Rattle.table.proofs.found_at.Goals as goal

pub returns-then-at-words : goal.returns-then-at-words
returns-then-at-words c =
    found_there c.args.words.now c.args.at c.args.word c.if-at-words.true c.offer_field.ensures c.offer_field-then-at-words.ensures

pub returns-else-at-words : goal.returns-else-at-words
returns-else-at-words c =
    le-ltb c.args.at (length c.args.words.now) (omega arith) ∙ sym (none_found c.args.words.now c.args.at c.args.word (omega arith))
