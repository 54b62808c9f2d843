-- `rows::place` meets its contract.
-- Assumes nothing.
use mathlib.Core.Path.{ap, sym, subst, ◌∙◌}
use Prim.Native.Nat.{ℕ, ◌≤◌}
use lib.Bits.{bit_and}
use lib.Count.{ones}
use Rattle.sheet.proofs.Bits.{ones_before, place_ones, place_none, place_small}
use native.Mathlib.Omega.{arith}
use Rattle.sheet.proofs.rows.place.Goals as goal

pub returns-then-earlier-eq0 : goal.returns-then-earlier-eq0
returns-then-earlier-eq0 c = let mask = c.args.mask in
    let none = ap (λ (n : ℕ). bit_and mask n) (sym c.before-2.ensures) ∙ c.if-earlier-eq0.true in
    (sym (place_none mask c.args.seat c.ranges.mask.fits (omega arith) none), omega arith)

pub returns : goal.returns
returns c = let fits = c.ranges.mask.fits in
    let mask = c.args.mask in
    let seat = c.args.seat in
    let same = ap (λ (n : ℕ). ones (bit_and mask n)) c.before-2.ensures in (
      same ∙ ones_before mask seat fits (omega arith) ∙ sym (place_ones mask seat fits),
      subst (λ (n : ℕ). n ≤ 32) (sym same) (place_small mask seat fits (omega arith)),
    )
