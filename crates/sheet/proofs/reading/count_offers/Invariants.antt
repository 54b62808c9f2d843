-- `reading::count_offers` meets its contract. The loop's invariant: the rows that are left are good exactly when the bytes are a sheet, and
-- the bytes before them have a price for each word that is not left.
-- Assumes nothing.
use Rattle.sheet.proofs.Counting.{Counting}
use Rattle.sheet.proofs.reading.count_offers.Given as goal

abbrev pub invariant-loop : goal.invariant-loop
invariant-loop l = Counting l.bytes l.left l.rows l.least l.counter
