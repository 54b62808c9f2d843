-- `search::position` meets its contract: the position lies in the half that is left.
-- Assumes nothing.
use mathlib.Core.Path.{◌∙◌, ap}
use Prim.Native.Nat.{ℕ}
use native.Mathlib.Omega.{arith}
use lib.Dec.{leb}
use Rattle.entry.specs.Word.{bit_of}
use Rattle.lists.proofs.Halving.{halved}
use Rattle.lists.proofs.search.position.Goals as goal

pub loop-size-preserved : goal.loop-size-preserved
loop-size-preserved c = let args = c.args in
    halved c.loop-size.invariant c.requires (omega arith) c.reaches.result
    (c.reaches.ensures ∙ ap (λ (n : ℕ). bit_of (leb n args.offer)) c.offer_of-there.ensures)
