-- `Entry::valid_flag` meets its contract.
-- Assumes nothing.
use Rattle.std.proofs.Common.{eqb, ap, ◌∙◌, arith}
use Rattle.entry.specs.Word.{price_of, is_put, bit_of, top_of}
use Rattle.entry.proofs.Flags.{or_flags, kind_flag, valid_parts}
use Rattle.entry.proofs.Entry.valid_flag.Goals as goal

pub returns : goal.returns
returns c = or_flags c.upper_of.result c.no_price_flag.result (is_put c.args.word)
    (eqb (price_of c.args.word) 0)
    (ap top_of c.upper_of.ensures ∙ kind_flag c.args.word (omega arith))
    c.no_price_flag.ensures
    ∙ ap bit_of (valid_parts c.args.word (omega arith))
