-- `executing::execute` meets its contract. The loop's invariant: the words made are the changes of the orders so far, and with them in
-- place of its own the read set shows what the next order sees.
-- Assumes nothing.
use Rattle.execution.proofs.Iterations.{Iterating}
use Rattle.execution.proofs.executing.execute.Given as goal

abbrev pub invariant-loop-k : goal.invariant-loop-k
invariant-loop-k l = Iterating l.reads l.orders l.words l.k
