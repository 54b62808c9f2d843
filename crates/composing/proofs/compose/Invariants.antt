-- `composing::compose` meets its contract: what is written so far and the composition of what is left make the composition.
-- Assumes nothing.
use Prim.Native.Nat.{◌+◌, ◌-◌}
use lib.ListN.{length}
use Rattle.composing.proofs.Composing.{Composing}
use Rattle.composing.proofs.compose.Given as goal

abbrev pub invariant-loop-j : goal.invariant-loop-j
invariant-loop-j l = Composing l.earlier l.later l.out l.initial.out l.i l.j l.k

abbrev pub decreases-loop-j : goal.decreases-loop-j
decreases-loop-j l = (length l.earlier - l.i) + (length l.later - l.j)
