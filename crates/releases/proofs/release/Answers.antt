-- `release` meets its contract: once the slot is closed the journal can be trimmed.
-- Assumes nothing.
use Rattle.std.proofs.Common.{rules}
use Rattle.slots.proofs.Closing.{closed_Trimmable}
use Rattle.releases.proofs.release.Goals as goal

pub trim-requires : goal.trim-requires
trim-requires c = closed_Trimmable c.args.reader.slot c.in_ok-release_check.ensures.store.sound (search rules) c.close_slot.ensures
