-- `Entry::climbs` meets its contract.
-- Assumes nothing.
use Rattle.std.proofs.Common.{arith}
use Rattle.entry.proofs.Flags.{climb_flag}
use Rattle.entry.proofs.Entry.climbs.Goals as goal

pub returns : goal.returns
returns c put = let args = c.args in
    rw c.upper_of.ensures
    (climb_flag c.wrapping_sub_u32.result args.before args.word
    (omega arith) (omega arith) (omega arith) put)
