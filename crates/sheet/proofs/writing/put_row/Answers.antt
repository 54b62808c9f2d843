-- `writing::put_row` meets its contract. The loop's invariant: the words passed are of the first word's row, the mask is the sum of
-- their bits, their prices are stored, and the next word is of their row.
-- Assumes nothing.
use mathlib.Core.Path.{◌∙◌}
use native.Mathlib.Omega.{arith}
use Rattle.sheet.proofs.Prices.{no_price, mask_fits, place_fits, price_stored, prices_stored, mask_stored, seats_stored}
use Rattle.sheet.proofs.Storing.{row_stored}
use Rattle.sheet.proofs.writing.put_row.Goals as goal

pub loop-word-init : goal.loop-word-init
loop-word-init c =
    no_price c.args.words.now c.put_uint.new.out 8 (c.requires.0, c.requires.1, omega (arith, c.put_uint.auto.out))
    c.row_of-row.result c.row_of-row.ensures

pub overflow_add-mask : goal.overflow_add-mask
overflow_add-mask c = omega (arith, mask_fits c.loop-word.invariant c.seat_of.result c.bit-mask.result c.seat_of.ensures c.bit-mask.ensures)

pub loop-word-preserved : goal.loop-word-preserved
loop-word-preserved c =
    price_stored c.loop-word.invariant c.seat_of.result c.bit-mask.result c.seat_of.ensures c.bit-mask.ensures
    c.is_of_row.result c.is_of_row.ensures c.loop-word-test.true
    c.from-in-loop-word.result (c.from-in-loop-word.ensures ∙ c.price_of.ensures) c.put_uint-in-loop-word.ensures

pub overflow_add-mask-2 : goal.overflow_add-mask-2
overflow_add-mask-2 c =
    omega (arith, mask_fits c.loop-word.invariant c.seat_of-seat.result c.bit-mask-2.result c.seat_of-seat.ensures c.bit-mask-2.ensures)

pub put_uint-requires-3 : goal.put_uint-requires-3
put_uint-requires-3 c = (
  omega arith,
  place_fits (mask_stored c.loop-word.invariant _ (rw c.from-2.ensures at c.put_uint-2.ensures)) c.seat_of-seat.result
      c.bit-mask-2.result c.seat_of-seat.ensures c.bit-mask-2.ensures
      c.place.result c.place.ensures.0,
)

pub returns : goal.returns
returns c =
    let words = c.args.words.now in
    row_stored words c.args.out.now c.requires.2 c.row_of-row.result _ _ c.put_uint.new.out _ c.row_of-row.ensures
    (rw c.from.ensures at c.put_uint.ensures)
    (seats_stored c.put_uint.new.out _ (omega (arith, c.put_uint.auto.out, c.requires.1, c.requires.2)) words _
    (prices_stored (mask_stored c.loop-word.invariant _ (rw c.from-2.ensures at c.put_uint-2.ensures)) c.seat_of-seat.result
    c.bit-mask-2.result c.seat_of-seat.ensures c.bit-mask-2.ensures
    c.is_of_row.result c.is_of_row.ensures c.loop-word-test.false c.place.result c.from-3.result c.place.ensures.0
    (c.from-3.ensures ∙ c.price_of-2.ensures) c.put_uint-3.ensures))
