-- `executing::execute` meets its contract. The loop's invariant: the words made are the changes of the orders so far, and with them in
-- place of its own the read set shows what the next order sees.
-- Assumes nothing.
use mathlib.Core.Path.{sym, ◌∙◌}
use native.Mathlib.Omega.{arith}
use Rattle.execution.proofs.Iterations.{iterating, iterated, iteration_fails, iteration_goes}
use Rattle.execution.proofs.executing.execute.Goals as goal

pub loop-k-init : goal.loop-k-init
loop-k-init c = iterating c.requires

pub loop-k-preserved : goal.loop-k-preserved
loop-k-preserved c = iteration_goes c.loop-k.invariant c.requires.rises (omega arith) (c.requires.located c.loop-k.k (omega arith))
    c.unwrap_or-shown.ensures (sym c.effect_of.ensures.0 ∙ c.in_ok-effect_of.was)

pub returns-in_err-effect_of : goal.returns-in_err-effect_of
returns-in_err-effect_of c =
    let e = iteration_fails c.loop-k.invariant c.requires.rises (omega arith) (c.requires.located c.loop-k.k (omega arith))
    c.unwrap_or-shown.ensures (sym c.effect_of.ensures.0 ∙ c.in_err-effect_of.was) in
    grind (arith, e)

pub returns : goal.returns
returns c = iterated c.loop-k.invariant (omega arith)
