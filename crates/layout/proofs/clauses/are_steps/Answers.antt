-- `clauses::are_steps` meets its contract: each step before the position passes, and the next starts where it ends.
-- Assumes nothing.
use mathlib.Core.Path.{◌∙◌, sym, refl}
use Prim.Native.Nat.{◌<◌}
use native.Mathlib.Omega.{arith}
use lib.Seq.{length-take-le}
use Rattle.std.proofs.lemmas.List.{get_or-take}
use Rattle.layout.specs.Clauses.{is_step}
use Rattle.layout.proofs.Holds.{none_below, goes_on, stops}
use Rattle.layout.proofs.StepTests.{start_next, step_test}
use Rattle.layout.proofs.clauses.are_steps.Goals as goal

pub loop-end-init : goal.loop-end-init
loop-end-init c = (refl, none_below (is_step c.args.journal.now c.args.ends.now))

pub returns-then-not-is_step : goal.returns-then-not-is_step
returns-then-not-is_step c =
    let ends = c.args.ends.now in
    let k = c.loop-end.end-index in
    let here : k < c.args.n = omega (arith, length-take-le c.args.n ends c.requires) in
    let mark = c.from-end.ensures ∙ get_or-take c.args.n ends k 0 here in
    sym (stops (is_step c.args.journal.now ends) c.args.n k here
    (sym (step_test c.args.journal.now ends k _ _ c.loop-end.invariant.0 mark) ∙ sym c.is_step.ensures ∙ c.if-not-is_step.true))

pub loop-end-preserved : goal.loop-end-preserved
loop-end-preserved c =
    let ends = c.args.ends.now in
    let k = c.loop-end.end-index in
    let here : k < c.args.n = omega (arith, length-take-le c.args.n ends c.requires) in
    let mark = c.from-end.ensures ∙ get_or-take c.args.n ends k 0 here in (
      mark ∙ sym (start_next ends k),
      goes_on (is_step c.args.journal.now ends) k c.loop-end.invariant.1
          (sym (step_test c.args.journal.now ends k _ _ c.loop-end.invariant.0 mark) ∙ sym c.is_step.ensures ∙ c.if-not-is_step.false),
    )
