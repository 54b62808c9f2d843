-- `writing::count_rows` meets its contract. The loop's invariant: the rows counted and those that begin in the words that are left are
-- all rows.
-- Assumes nothing.
use mathlib.Core.Path.{◌∙◌, sym, ap}
use Prim.Native.Nat.{ℕ, ◌+◌}
use native.Mathlib.Omega.{arith}
use borrow.Author.Tests.{not-true, not-false}
use lib.ListN.{drop}
use Rattle.std.specs.Prelude.{Option}
use Rattle.sheet.specs.Sheet.{rows_of}
use Rattle.sheet.proofs.RowCounts.{behind, behind_none, behind_end, behind_same, behind_new}
use Rattle.sheet.proofs.writing.count_rows.Goals as goal
use Rattle.sheet.proofs.writing.count_rows.Goals.{then-ne, else-ne}

pub loop-word-init : goal.loop-word-init
loop-word-init c = (omega arith, omega arith, omega (arith, behind_none))

pub loop-word-preserved : goal.loop-word-preserved
loop-word-preserved c =
    let words = c.args.words.now in
    let i = c.loop-word.word-index in
    let left = rows_of (drop (c.loop-word.word-index + 1) c.args.words.now) in
    elim c.if-ne.branch [
      | then-ne w ↦ (
          let new = behind_new words i c.loop-word-test.true c.row_of.result c.row_of.ensures c.loop-word.last
          (not-true _ (sym c.ne.ensures ∙ w.if-ne.true)) in
          (omega (arith, w.count-is), omega arith, omega (arith, w.count-is, ap (λ (o : Option ℕ). behind o left) w.last-is, new))
          )
      | else-ne w ↦ (
          let same = behind_same words i c.loop-word-test.true c.row_of.result c.row_of.ensures c.loop-word.last
          (not-false _ (sym c.ne.ensures ∙ w.if-ne.false)) in
          (omega (arith, w.count-is), omega arith, omega (arith, w.count-is, ap (λ (o : Option ℕ). behind o left) w.last-is, same))
          )
    ]

pub returns : goal.returns
returns c = (omega (arith, behind_end c.args.words.now c.loop-word.word-index c.loop-word.last (omega arith)), omega arith)
