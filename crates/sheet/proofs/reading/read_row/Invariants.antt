-- `reading::read_row` meets its contract: the words of the seats before are in the table, as many as are counted, and the bits that are
-- left are those of the seats behind.
-- Assumes nothing.
use Rattle.sheet.proofs.RowReading.{RowReading}
use Rattle.sheet.proofs.reading.read_row.Given as goal

abbrev pub invariant-loop-i : goal.invariant-loop-i
invariant-loop-i l = RowReading l.bytes l.number l.mask l.table l.initial.table l.rest l.i
