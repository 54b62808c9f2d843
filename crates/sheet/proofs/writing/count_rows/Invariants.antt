-- `writing::count_rows` meets its contract. The loop's invariant: the rows counted and those that begin in the words that are left are
-- all rows.
-- Assumes nothing.
use mathlib.Core.Path.{◌≡◌}
use Prim.Native.Nat.{◌+◌, ◌≤◌}
use lib.ListN.{length, drop}
use Rattle.sheet.specs.Sheet.{rows_of}
use Rattle.sheet.proofs.RowCounts.{behind}
use Rattle.sheet.proofs.writing.count_rows.Given as goal

abbrev pub invariant-loop-word : goal.invariant-loop-word
invariant-loop-word l =
    (l.count ≤ l.word-index)
    × (l.word-index ≤ length l.words)
    × (l.count + behind l.last (rows_of (drop l.word-index l.words)) ≡ length (rows_of l.words))
