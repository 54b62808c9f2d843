-- `writing::write` meets its contract. The loop's invariant: what is written so far and the bytes of the rows of the words that are
-- left make the header and the bytes of all rows.
-- Assumes nothing.
use mathlib.Core.Path.{sym}
use native.Mathlib.Omega.{arith}
use borrow.Author.Tests.{eqb-true, eqb-false}
use Rattle.words.proofs.Parts.{part}
use Rattle.words.proofs.Pieces.{continued, completed}
use Rattle.sheet.proofs.Clauses.{sheet_size_lem}
use Rattle.sheet.proofs.Storing.{none_written, rows_end, row_asked, row_written, header_stored}
use Rattle.sheet.proofs.writing.write.Goals as goal

pub put_uint-requires : goal.put_uint-requires
put_uint-requires c = (omega arith, omega (arith, sheet_size_lem c.args.words.now))

pub put_uint-requires-2 : goal.put_uint-requires-2
put_uint-requires-2 c = (omega arith, omega (arith, sheet_size_lem c.args.words.now))

pub loop-left-init : goal.loop-left-init
loop-left-init c = none_written c.args.words.now _ c.requires.0.rises (omega (arith, c.put_uint.auto.out, c.put_uint-2.auto.out))

pub put_row-count-requires : goal.put_row-count-requires
put_row-count-requires c = row_asked c.loop-left.invariant (eqb-false _ _ (sym c.loop-left-test.ensures))

pub loop-left-preserved : goal.loop-left-preserved
loop-left-preserved c = rw (part c.loop-left.left.now c.put_row-count.result)
    (row_written c.loop-left.invariant (eqb-false _ _ (sym c.loop-left-test.ensures)) c.put_row-count.result
    c.put_row-count.new.out c.put_row-count.ensures)

pub returns : goal.returns
returns c =
    let args = c.args in
    let header = header_stored args.out.now args.state args.rows args.words.now
    (omega (arith, sheet_size_lem args.words.now)) _ _ c.requires.1
    (rw c.from.ensures at c.put_uint.ensures) (rw c.from-2.ensures at c.put_uint-2.ensures) in
    let end = rows_end c.loop-left.invariant (eqb-true _ _ (sym c.loop-left-test.ensures)) in
    (end.0, completed (continued header end.1 c.loop-left.invariant.header))
