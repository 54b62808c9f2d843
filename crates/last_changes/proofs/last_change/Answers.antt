-- `last_changes::last_change` meets its contract: the steps that were searched have no word at the offer.
-- Assumes nothing.
use Rattle.last_changes.proofs.Seeking.{last_is, sought}
use Rattle.last_changes.proofs.Seeking.{newest_Marked, newest_rises, found_there, not_there}
use Rattle.std.proofs.Common.{◌≡◌, ◌+◌, ◌-◌}
use native.Mathlib.Omega.{arith}
use Rattle.last_changes.proofs.last_change.Goals as goal

pub find_in_step-found-requires : goal.find_in_step-found-requires
find_in_step-found-requires c =
    (newest_Marked c.loop-step.invariant c.loop-step-test.true, newest_rises c.loop-step.invariant c.loop-step-test.true)

pub returns-in-Some : goal.returns-in-Some
returns-in-Some c = let same : c.loop-step.step - 1 + 1 ≡ c.loop-step.step = omega arith in
    rw same (last_is c.requires c.args.offer
    (found_there c.loop-step.invariant c.loop-step-test.true _ c.find_in_step-found.ensures _ c.in-Some.is))

pub loop-step-preserved : goal.loop-step-preserved
loop-step-preserved c = not_there c.loop-step.invariant c.loop-step-test.true _ c.find_in_step-found.ensures (c.in_default.is)

pub returns : goal.returns
returns c = last_is c.requires c.args.offer (sought c.loop-step.invariant (omega arith))
