-- `reading::read_row` meets its contract: the words of the seats before are in the table, as many as are counted, and the bits that are
-- left are those of the seats behind.
-- Assumes nothing.
use mathlib.Core.Path.{ap}
use native.Mathlib.Omega.{arith}
use Rattle.sheet.specs.Sheet.{set_bits}
use Rattle.sheet.proofs.RowReading.{begin_row, bit_in, place_in_lem, seat_stored, end_early, end_full}
use Rattle.sheet.proofs.reading.read_row.Goals as goal

pub loop-i-init : goal.loop-i-init
loop-i-init c =
    begin_row c.args.bytes.now c.uint_at-number.result c.uint_at-mask.result c.uint_at-number.ensures.0 c.uint_at-mask.ensures.0
    (omega arith) (omega arith) c.args.table.now c.requires.1 (omega (arith, c.requires.2, ap set_bits c.uint_at-mask.ensures.0))

pub returns-then-rest-eq0-clause-words : goal.returns-then-rest-eq0-clause-words
returns-then-rest-eq0-clause-words c =
    end_early c.args.bytes.now c.uint_at-number.result c.uint_at-mask.result c.uint_at-number.ensures.0 c.uint_at-mask.ensures.0
    (omega arith) c.loop-i.invariant c.if-rest-eq0.true

pub returns-then-rest-eq0-clause-inside : goal.returns-then-rest-eq0-clause-inside
returns-then-rest-eq0-clause-inside c =
    let end = end_early c.args.bytes.now c.uint_at-number.result c.uint_at-mask.result c.uint_at-number.ensures.0 c.uint_at-mask.ensures.0
    (omega arith) c.loop-i.invariant c.if-rest-eq0.true in
    (omega (arith, end.0, c.requires.1), omega arith)

pub uint_at-price-requires : goal.uint_at-price-requires
uint_at-price-requires c = (omega arith, omega (arith, place_in_lem c.loop-i.invariant c.if-rest-eq0.false, c.loop-i.invariant.whole))

pub overflow_sub-rest : goal.overflow_sub-rest
overflow_sub-rest c = omega (arith, bit_in c.loop-i.invariant c.if-rest-eq0.false)

pub loop-i-preserved : goal.loop-i-preserved
loop-i-preserved c =
    seat_stored c.loop-i.invariant c.if-rest-eq0.false c.uint_at-price.result c.put.result c.uint_at-price.ensures.0 c.put.ensures
    c.bit-rest.result c.bit-rest.ensures

pub returns-clause-words : goal.returns-clause-words
returns-clause-words c =
    end_full c.args.bytes.now c.uint_at-number.result c.uint_at-mask.result c.uint_at-number.ensures.0 c.uint_at-mask.ensures.0
    (omega arith) c.loop-i.invariant (omega arith)

pub returns-clause-inside : goal.returns-clause-inside
returns-clause-inside c =
    let end = end_full c.args.bytes.now c.uint_at-number.result c.uint_at-mask.result c.uint_at-number.ensures.0 c.uint_at-mask.ensures.0
    (omega arith) c.loop-i.invariant (omega arith) in
    (omega (arith, end.0, c.requires.1), omega arith)
