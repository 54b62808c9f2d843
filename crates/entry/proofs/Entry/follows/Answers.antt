-- `Entry::follows` meets its contract.
-- Assumes nothing.
use Rattle.std.proofs.Common.{arith}
use Rattle.entry.proofs.Flags.{follow_flag}
use Rattle.entry.proofs.Entry.follows.Goals as goal

pub returns : goal.returns
returns c = follow_flag c.valid_flag.result c.wrapping_sub_u32.result
    c.args.before c.args.word
    (omega arith) c.valid_flag.ensures
    (rw (← c.offer_of.ensures, ← c.offer_of-2.ensures) c.wrapping_sub_u32.ensures.value)
