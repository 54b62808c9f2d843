-- `forward` meets its contract: the slot's number lies between the floor and the checkpoint, so that the steps from there to the state are
-- held; and once the slot is closed the journal can be trimmed.
-- Assumes nothing.
use Rattle.std.proofs.Common.{rules, arith}
use Rattle.views.specs.View.{Shaped}
use Rattle.views.proofs.SoundFacts.{shaped}
use Rattle.slots.proofs.Closing.{closed_Trimmable, number_low, number_high}
use Rattle.last_changes.proofs.HeldSteps.{steps_Rising}
use Rattle.forwards.proofs.forward.Goals as goal

pub step_index-from-requires : goal.step_index-from-requires
step_index-from-requires c = let known = c.in_ok-forward_check.ensures in
    number_low _ _ _ (shaped _ (search rules) (search rules) (search rules)) known.store.sound c.args.reader.slot known.slot.0 known.slot.1

pub bring_forward-requires : goal.bring_forward-requires
bring_forward-requires c = let known = c.in_ok-forward_check.ensures in
    let p : Shaped c.args.head.now = shaped _ (search rules) (search rules) (search rules) in
    let high = number_high _ _ _ p known.store.sound c.args.reader.slot known.slot.0 known.slot.1 in
    rw (c.step_index-from.ensures, c.step_index-to.ensures)
    (steps_Rising _ _ _ p known.store.sound _ _ (omega (arith, high, known.state)) known.state.1)

pub trim-requires : goal.trim-requires
trim-requires c = closed_Trimmable c.args.reader.slot c.in_ok-forward_check.ensures.store.sound (search rules) c.close_slot.ensures
