-- `last_changes::bring_few` meets its contract: each word is sought.
-- Assumes nothing.
use Prim.Native.Nat.{◌-◌}
use lib.ListN.{length}
use Rattle.changes.specs.Calculus.{compose_all}
use Rattle.changes.specs.Runs.{run_of}
use Rattle.last_changes.proofs.Changing.{Changing}
use Rattle.last_changes.proofs.bring_few.Given as goal

abbrev pub invariant-loop-word : goal.invariant-loop-word
invariant-loop-word l = Changing l.words l.initial.words (compose_all (run_of l.journal l.ends l.from (l.to - l.from))) l.word-index
