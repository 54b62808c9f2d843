-- `executing::count` meets its contract. The loop's invariant: what is counted and the words made behind make all.
-- Assumes nothing.
use Prim.Native.Nat.{◌+◌, ◌≤◌}
use mathlib.Core.Path.{◌≡◌}
use lib.ListN.{length, drop}
use Rattle.execution.specs.Working.{made}
use Rattle.execution.proofs.executing.count.Given as goal

abbrev pub invariant-loop-word : goal.invariant-loop-word
invariant-loop-word l =
    (l.n ≤ l.word-index) × (l.word-index ≤ length l.words) × (l.n + length (made (drop l.word-index l.words)) ≡ length (made l.words))
