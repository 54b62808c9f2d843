-- `last_changes::word_after` meets its contract.
-- Assumes nothing.
use mathlib.Core.Path.{◌∙◌, sym, ap}
use mathlib.Core.Bool.{false}
use Prim.Native.Nat.{ℕ}
use lib.ListN.{get_or}
use Rattle.changes.specs.ReadSets.{found_or}
use Rattle.last_changes.proofs.Filtering.{not_noted}
use Rattle.last_changes.proofs.word_after.Goals as goal

pub returns-then-not-filter-filter_cell : goal.returns-then-not-filter-filter_cell
returns-then-not-filter-filter_cell c = let args = c.args in
    ap (λ f. found_or f args.word)
    (sym (not_noted c.requires.0 c.requires.1 args.word
    (ap (λ (p : ℕ). get_or args.filter.now p false) (sym c.filter_cell.ensures) ∙ c.if-not-filter-filter_cell.true)))
