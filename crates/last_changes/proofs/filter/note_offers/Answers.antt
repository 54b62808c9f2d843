-- `filter::note_offers` meets its contract: what is noted so far with the words left noted too is all noted.
-- Assumes nothing.
use mathlib.Core.Path.{sym, ap, ◌∙◌}
use mathlib.Core.Bool.{true}
use Prim.Native.Nat.{ℕ, ◌+◌}
use lib.ListN.{drop, set, length-set}
use borrow.Author.Rules.{rules}
use native.Mathlib.Omega.{arith}
use Rattle.last_changes.specs.Filter.{noted}
use Rattle.last_changes.proofs.Filtering.{note_next, note_end}
use Rattle.last_changes.proofs.filter.note_offers.Goals as goal

pub loop-word-preserved : goal.loop-word-preserved
loop-word-preserved c = let args = c.args in (
  search rules,
  length-set c.loop-word.filter c.filter_cell-cell.result true
      ∙ c.loop-word.invariant.1,
  ap (λ (p : ℕ). noted (set c.loop-word.filter p true)
      (drop (c.loop-word.word-index + 1) args.words.now)) c.filter_cell-cell.ensures
      ∙ sym (note_next c.loop-word.filter args.words.now c.loop-word.word-index c.loop-word-test.true) ∙ c.loop-word.invariant.2,
)

pub returns : goal.returns
returns c = let args = c.args in
    sym (note_end c.loop-word.filter args.words.now c.loop-word.word-index (omega arith)) ∙ c.loop-word.invariant.2
