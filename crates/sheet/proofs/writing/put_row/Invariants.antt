-- `writing::put_row` meets its contract. The loop's invariant: the words passed are of the first word's row, the mask is the sum of
-- their bits, their prices are stored, and the next word is of their row.
-- Assumes nothing.
use Prim.Native.Nat.{◌-◌}
use lib.ListN.{length}
use Rattle.sheet.proofs.Prices.{Pass}
use Rattle.sheet.proofs.writing.put_row.Given as goal

abbrev pub invariant-loop-word : goal.invariant-loop-word
invariant-loop-word l = Pass l.words 8 l.out l.initial.out l.row l.mask l.count

abbrev pub decreases-loop-word : goal.decreases-loop-word
decreases-loop-word l = length l.words - l.count
