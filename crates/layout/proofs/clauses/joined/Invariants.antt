-- `clauses::joined` meets its contract: the words so far are joined.
-- Assumes nothing.
use lib.ListN.{take}
use Rattle.std.specs.List.{FoldsTo}
use Rattle.layout.proofs.clauses.joined.Given as goal

abbrev pub invariant-loop-word : goal.invariant-loop-word
invariant-loop-word g l =
    (first : _) × g.W.Default.is_default first × FoldsTo g.W.BitOr.bitor_gives first (take l.word-index l.words) l.seen
