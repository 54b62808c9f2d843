-- `reading::read_words` meets its contract: what is written so far and the words of the rows that are left make the words.
-- Assumes nothing.
use Rattle.sheet.proofs.SheetReading.{Reading}
use Rattle.sheet.proofs.reading.read_words.Given as goal

abbrev pub invariant-loop : goal.invariant-loop
invariant-loop l = Reading l.bytes l.table l.initial.table l.left l.rows l.from l.counter
