-- `search::position` meets its contract: the position lies in the half that is left.
-- Assumes nothing.
use Rattle.lists.proofs.Halving.{Halving}
use Rattle.lists.proofs.search.position.Given as goal

abbrev pub invariant-loop-size : goal.invariant-loop-size
invariant-loop-size l = Halving l.words l.offer l.low l.size

abbrev pub decreases-loop-size : goal.decreases-loop-size
decreases-loop-size l = l.size
