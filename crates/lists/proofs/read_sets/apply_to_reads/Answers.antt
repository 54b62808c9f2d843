-- `read_sets::apply_to_reads` meets its contract: the words so far are changed, and the others are as they were.
-- Assumes nothing.
use Rattle.std.proofs.Common.{ℕ, get_or, arith}
use Rattle.std.proofs.lemmas.List.{get_or_default}
use Rattle.std.proofs.lemmas.List.Edits.{map_over_more}
use Rattle.entry.specs.Word.{offer_of}
use Rattle.changes.specs.Calculus.{find}
use Rattle.changes.specs.ReadSets.{found_or, over}
use Rattle.lists.proofs.read_sets.apply_to_reads.Goals as goal

pub loop-word-preserved : goal.loop-word-preserved
unfolding over
loop-word-preserved c =
    let change : ℕ → ℕ = λ w. found_or (find (offer_of w) c.args.changes.now) w in
    let reads = c.loop-word.reads in
    let k = c.loop-word.word-index in
    rw c.changed.ensures (map_over_more change c.args.reads.now reads k (get_or reads k 0) (omega arith) c.loop-word.invariant
    (get_or_default reads k 0 _ (omega arith)))
