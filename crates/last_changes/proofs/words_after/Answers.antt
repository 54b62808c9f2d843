-- `last_changes::words_after` meets its contract: each word is asked of the filter.
-- Assumes nothing.
use Rattle.last_changes.proofs.Changing.{changed_one, changed_all}
use native.Mathlib.Omega.{arith}
use Rattle.last_changes.proofs.words_after.Goals as goal

pub loop-word-preserved : goal.loop-word-preserved
loop-word-preserved c = changed_one c.loop-word.invariant c.word_after.ensures (omega arith)

pub returns : goal.returns
returns c = changed_all c.loop-word.invariant (omega arith)
