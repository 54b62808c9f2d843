-- `runs::compose_run` meets its contract: the halves of a run are composed, and the number of steps falls.
-- Assumes nothing.
use Prim.Native.Nat.{◌-◌}
use Rattle.runs.proofs.+compose_run.Given as goal

abbrev pub decreases-compose_run : goal.decreases-compose_run
decreases-compose_run l = l.to - l.from
