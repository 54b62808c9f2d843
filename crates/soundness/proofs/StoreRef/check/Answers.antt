-- A store that passes the check is sound, and its lengths are in range.
-- Assumes nothing.
use Rattle.std.proofs.Common.{◌≡◌, true, sym, ap, ◌∙◌, length}
use Rattle.layout.proofs.HeadTests.{lengths_facts}
use Rattle.soundness.proofs.Sounds.{Sound-facts}
use Rattle.soundness.proofs.StoreRef.check.Goals as goal

pub returns-clause-sound : goal.returns-clause-sound
returns-clause-sound c = let store = c.args.self in
    record {
      range = lengths_facts (length store.table.now) (length store.journal.now) (sym c.lengths_fit.ensures ∙ c.if-not-lengths_fit.false);
      sound = Sound-facts store.table.now store.journal.now store.head.now (sym c.is_sound.ensures ∙ c.if-not-is_sound.false);
    }
