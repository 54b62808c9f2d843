-- `last_changes::bring_many` meets its contract: the filter has the words of all steps noted.
-- Assumes nothing.
use mathlib.Core.Bool.{false}
use lib.ListN.{replicate, length-replicate}
use Rattle.last_changes.proofs.Filtering.{part_Noted}
use Rattle.last_changes.proofs.bring_many.Goals as goal

pub words_after-requires : goal.words_after-requires
words_after-requires c = (
  c.requires,
  part_Noted c.requires (replicate 16384 false) _ (length-replicate 16384 false) c.end_of-start.result
      c.end_of-end.result c.end_of-start.ensures c.end_of-end.ensures c.note_offers.ensures,
)
