-- `writing::write` meets its contract. The loop's invariant: what is written so far and the bytes of the rows of the words that are
-- left make the header and the bytes of all rows.
-- Assumes nothing.
use lib.ListN.{length}
use Rattle.sheet.proofs.Storing.{Rows}
use Rattle.sheet.proofs.writing.write.Given as goal

abbrev pub invariant-loop-left : goal.invariant-loop-left
invariant-loop-left l = Rows l.words l.out l.initial.out l.left l.at

abbrev pub decreases-loop-left : goal.decreases-loop-left
decreases-loop-left l = length l.left
