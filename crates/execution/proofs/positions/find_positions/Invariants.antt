-- `positions::find_positions` meets its contract. The loop's invariant: the orders so far are in the read set, at the positions
-- noted for them.
-- Assumes nothing.
use Rattle.execution.proofs.OrderPositions.{Finding}
use Rattle.execution.proofs.positions.find_positions.Given as goal

abbrev pub invariant-loop-k : goal.invariant-loop-k
invariant-loop-k l = Finding l.reads l.orders l.positions l.initial.positions l.k
