-- `clauses::are_steps` meets its contract: each step before the position passes, and the next starts where it ends.
-- Assumes nothing.
use mathlib.Core.Path.{◌≡◌}
use mathlib.Core.Bool.{true}
use Rattle.changes.specs.Runs.{start_of}
use Rattle.layout.specs.Clauses.{is_step}
use Rattle.layout.specs.Tests.{all_below}
use Rattle.layout.proofs.clauses.are_steps.Given as goal

abbrev pub invariant-loop-end : goal.invariant-loop-end
invariant-loop-end l =
    (l.start ≡ start_of l.ends l.end-index) × (all_below l.end-index (is_step l.journal l.ends) ≡ true)
