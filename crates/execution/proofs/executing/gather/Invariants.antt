-- `executing::gather` meets its contract. The loop's invariant: what is written and the words made behind are the words made.
-- Assumes nothing.
use Rattle.execution.proofs.Gathering.{Gathered}
use Rattle.execution.proofs.executing.gather.Given as goal

abbrev pub invariant-loop-word : goal.invariant-loop-word
invariant-loop-word l = Gathered l.words l.out l.n l.word-index
