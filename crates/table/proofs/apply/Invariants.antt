-- `table::apply` meets its contract: what is written so far and the map after the changes that are left make the map.
-- Assumes nothing.
use Rattle.std.proofs.Common.{◌-◌, ◌<◌, length}
use Rattle.table.proofs.Applying.{Applying}
use Rattle.table.proofs.apply.Given as goal

abbrev pub invariant-loop-change : goal.invariant-loop-change
invariant-loop-change l = Applying l.map l.changes l.out l.initial.out l.i l.change-index l.k

abbrev pub invariant-loop-out : goal.invariant-loop-out
invariant-loop-out l = (l.change-index < length l.changes) × Applying l.map l.changes l.out l.fn.out l.i l.change-index l.k

abbrev pub decreases-loop-out : goal.decreases-loop-out
decreases-loop-out l = length l.map - l.i
