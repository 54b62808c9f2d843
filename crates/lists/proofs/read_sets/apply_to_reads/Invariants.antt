-- `read_sets::apply_to_reads` meets its contract: the words so far are changed, and the others are as they were.
-- Assumes nothing.
use Rattle.std.proofs.Common.{◌≡◌, ◌++◌, take, drop}
use Rattle.changes.specs.ReadSets.{over}
use Rattle.lists.proofs.read_sets.apply_to_reads.Given as goal

abbrev pub invariant-loop-word : goal.invariant-loop-word
invariant-loop-word l = l.reads ≡ over (take l.word-index l.initial.reads) l.changes ++ drop l.word-index l.initial.reads
