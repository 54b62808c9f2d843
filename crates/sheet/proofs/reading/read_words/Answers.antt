-- `reading::read_words` meets its contract: what is written so far and the words of the rows that are left make the words.
-- Assumes nothing.
use Prim.Native.Nat.{◌+◌, ◌*◌}
use Rattle.words.proofs.Parts.{part}
use Rattle.sheet.proofs.Clauses.{count_read}
use Rattle.sheet.proofs.SheetReading.{Reading-all, row_asked, words_stored, reading_done}
use Rattle.sheet.proofs.reading.read_words.Goals as goal

pub loop-init : goal.loop-init
loop-init c =
    let b = c.args.bytes.now in
    rw (part b 8) (Reading-all b c.args.table.now c.uint_at-rows.result (count_read b c.uint_at-rows.ensures.0) c.requires.0 c.requires.1)

pub read_row-count-requires : goal.read_row-count-requires
read_row-count-requires c = row_asked c.loop.invariant c.loop-test.true

pub loop-preserved : goal.loop-preserved
loop-preserved c =
    rw (part c.loop.left.now (8 + 4 * c.read_row-count.result)) (words_stored c.loop.invariant c.loop-test.true c.read_row-count.result
    c.read_row-count.new.table c.read_row-count.ensures.words c.read_row-count.auto.table)

pub returns : goal.returns
returns c = reading_done c.loop.invariant c.loop-test.false
