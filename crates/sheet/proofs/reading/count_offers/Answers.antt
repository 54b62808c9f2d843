-- `reading::count_offers` meets its contract. The loop's invariant: the rows that are left are good exactly when the bytes are a sheet, and
-- the bytes before them have a price for each word that is not left.
-- Assumes nothing.
use mathlib.Core.Path.{◌∙◌, sym, ap}
use native.Mathlib.Omega.{arith}
use borrow.Author.Tests.{eqb-true, eqb-false}
use Rattle.std.specs.Prelude.{Some}
use Rattle.words.proofs.Parts.{part}
use Rattle.big_endian.proofs.Fields.{all_bytes}
use Rattle.sheet.proofs.Clauses.{count_read}
use Rattle.sheet.proofs.Counting.{Counting-all, refused, passed, left_over, all_read, all_counted}
use Rattle.sheet.proofs.SheetTest.{facts_bytes, sheet_short}
use Rattle.sheet.proofs.reading.count_offers.Goals as goal

pub returns-then-bytes-lt-HEADER_BYTES : goal.returns-then-bytes-lt-HEADER_BYTES
returns-then-bytes-lt-HEADER_BYTES c =
    let b = c.args.bytes.now in
    rw (sheet_short b (facts_bytes b (all_bytes b (λ i. (c.type_inv.bytes i).fits))) c.if-bytes-lt-HEADER_BYTES.true)

pub loop-init : goal.loop-init
loop-init c =
    let b = c.args.bytes.now in
    rw (part b 8) (Counting-all b c.uint_at-rows.result (count_read b c.uint_at-rows.ensures.0)
    (all_bytes b (λ i. (c.type_inv.bytes i).fits)) c.if-bytes-lt-HEADER_BYTES.false)

pub returns-in_err-number : goal.returns-in_err-number
returns-in_err-number c = rw (
  c.from_residual.ensures,
  refused c.loop.invariant c.loop-test.true
      (sym c.first_row.ensures.row ∙ c.in_err-number.was),
)

pub loop-preserved : goal.loop-preserved
loop-preserved c = rw (part c.loop.left.now c.in_ok-number.size)
    (passed c.loop.invariant c.loop-test.true c.in_ok-number.number c.in_ok-number.size
    (sym c.first_row.ensures.row ∙ c.in_ok-number.was))

pub returns-then-not-is_empty : goal.returns-then-not-is_empty
returns-then-not-is_empty c = rw (left_over c.loop.invariant c.loop-test.false (eqb-false _ _ (sym c.if-not-is_empty.ensures)))

pub overflow_sub-result-2 : goal.overflow_sub-result-2
overflow_sub-result-2 c =
    omega (arith, all_counted c.loop.invariant c.loop-test.false (eqb-true _ _ (sym c.if-not-is_empty.ensures)))

pub returns : goal.returns
returns c =
    let none = eqb-true _ _ (sym c.if-not-is_empty.ensures) in
    rw (all_read c.loop.invariant c.loop-test.false none)
    (ap Some (omega (arith, all_counted c.loop.invariant c.loop-test.false none)))
