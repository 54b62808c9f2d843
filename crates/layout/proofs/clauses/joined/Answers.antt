-- `clauses::joined` meets its contract: the words so far are joined.
-- Assumes nothing.
use Rattle.std.proofs.lemmas.Fn.{FoldsTo-push}
use Rattle.std.proofs.lemmas.List.{take_more}
use Rattle.layout.proofs.clauses.joined.Goals as goal

pub loop-word-preserved : goal.loop-word-preserved
loop-word-preserved g c =
    let h = c.loop-word.invariant in
    let next = take_more c.args.words.now c.loop-word.word-index c.word-item.result c.loop-word-test.true in
    (h.0, h.1, rw (next, ← c.word-item.is) (FoldsTo-push _ h.0 _ _ _ _ h.2 c.bitor-seen.ensures))
