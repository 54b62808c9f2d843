-- `clauses::least_of` meets its contract: of the least so far and the slots that are left the least is that of all.
-- Assumes nothing.
use mathlib.Core.Path.{◌≡◌}
use Rattle.layout.specs.Tests.{least}
use Rattle.layout.proofs.clauses.least_of.Given as goal

abbrev pub invariant-loop-is_open : goal.invariant-loop-is_open
invariant-loop-is_open l =
    least l.least l.is_open-iterator.a.rest.now l.is_open-iterator.b.rest.now ≡ least l.checkpoint l.fn.taken l.fn.issued
