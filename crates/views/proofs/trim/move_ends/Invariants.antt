-- `trim::move_ends` meets its contract: so many marks are moved, and the others are 0.
-- Assumes nothing.
use mathlib.Core.Path.{◌≡◌}
use mathlib.Core.List.{map}
use Prim.Native.Nat.{◌-◌}
use lib.ListN.{take}
use Rattle.views.specs.Laid.{padded}
use Rattle.views.proofs.trim.move_ends.Given as goal

abbrev pub invariant-loop-k : goal.invariant-loop-k
invariant-loop-k l = l.moved ≡ padded 64 (map (λ e. e - l.words) (take l.k l.end-items))
