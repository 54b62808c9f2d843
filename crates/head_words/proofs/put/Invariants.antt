-- `head_words::put` meets its contract: the fields so far stand in the words.
-- Assumes nothing.
use mathlib.Core.Path.{◌≡◌}
use lib.ListN.{length, take}
use Rattle.std.specs.List.{AllZip}
use Rattle.head_words.proofs.put.Given as goal

abbrev pub invariant-loop-k : goal.invariant-loop-k
invariant-loop-k g l = (length l.fields ≡ length l.words) × AllZip g.T.Into.converts (take l.k l.fields) (take l.k l.words)
