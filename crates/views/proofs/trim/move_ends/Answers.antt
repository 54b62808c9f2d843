-- `trim::move_ends` meets its contract: so many marks are moved, and the others are 0.
-- Assumes nothing.
use mathlib.Core.Path.{ap₂, ◌∙◌}
use Prim.Native.Nat.{◌-◌}
use native.Mathlib.Omega.{arith}
use lib.ListN.{length-take, drop, set}
use Rattle.views.proofs.Moving.{moved_more}
use Rattle.views.proofs.trim.move_ends.Goals as goal

pub loop-k-preserved : goal.loop-k-preserved
loop-k-preserved c =
    let args = c.args in
    ap₂ (λ l e. set l c.loop-k.k (e - args.words)) c.loop-k.invariant c.from.ensures
    ∙ moved_more _ args.words c.loop-k.k c.loop-k-test.true
    (omega (arith, c.requires.1, length-take (args.to - args.from) (drop args.from args.ends)))
