-- `look_up` meets its contract.
-- Assumes nothing.
use Rattle.std.proofs.Common.{sym, arith, rules}
use Rattle.last_changes.proofs.HeldSteps.{steps_rise}
use Rattle.lookups.proofs.look_up.Goals as goal

pub price_after-quote-requires : goal.price_after-quote-requires
price_after-quote-requires c = let store = c.args.store in
    let known = c.in_ok-look_up_check.ensures in
    let ok = known.sound in
    let rising = steps_rise store.table.now store.journal.now store.head.now (search rules) ok.sound
    store.head.now.checkpoint c.args.asked.state known.range.0 known.range.1 in (
      ok.sound.map,
      rw (c.step_index-from.ensures, c.step_index-to.ensures) rising,
      omega (arith, ok.sound.low, known.range.0, c.step_index-from.ensures, c.step_index-to.ensures),
    )
