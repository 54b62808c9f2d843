-- `last_changes::last_change` meets its contract: the steps that were searched have no word at the offer.
-- Assumes nothing.
use Rattle.last_changes.proofs.Seeking.{Seeking}
use Rattle.last_changes.proofs.last_change.Given as goal

abbrev pub invariant-loop-step : goal.invariant-loop-step
invariant-loop-step l = Seeking l.journal l.ends l.from l.to l.offer l.step
