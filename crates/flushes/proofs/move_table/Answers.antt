-- `move_table` meets its contract.
-- Assumes nothing.
use Rattle.std.proofs.Common.{arith, ap, length}
use Rattle.flushes.proofs.Flushing.{used_in}
use Rattle.flushes.proofs.move_table.Goals as goal

pub replace-requires : goal.replace-requires
replace-requires g c = (used_in c.requires.held, omega (arith, ap length c.map_at-size.ensures.1))
