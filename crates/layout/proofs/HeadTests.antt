-- The tests of a head's numbers and of the lengths lent, as facts.
-- Assumes nothing.
use mathlib.Core.Path.{◌≡◌, ◌∙◌}
use mathlib.Core.Bool.{true}
use Prim.Native.Nat.{ℕ, ◌-◌, ◌≤◌}
use borrow.Author.Tests.{leb-true, le-leb}
use Rattle.layout.specs.Clauses.{are_lengths, are_numbers}
use Rattle.layout.proofs.Holds.{all_first, all_rest, first_holds, all_none}

pub numbers_facts : (oldest checkpoint tip : ℕ) → are_numbers oldest checkpoint tip ≡ true → (oldest ≤ checkpoint)
    × (checkpoint ≤ tip) × (tip - oldest ≤ 64)
numbers_facts oldest checkpoint tip e = (
  leb-true _ _ (all_first _ _ e),
  leb-true _ _ (all_first _ _ (all_rest _ _ e)),
  leb-true _ _
      (all_first _ _ (all_rest _ _ (all_rest _ _ e))),
)

pub facts_numbers : (oldest checkpoint tip : ℕ) → oldest ≤ checkpoint → checkpoint ≤ tip → tip - oldest ≤ 64
    → are_numbers oldest checkpoint tip ≡ true
facts_numbers oldest checkpoint tip a b c =
    first_holds _ _ (le-leb oldest checkpoint a) ∙ first_holds _ _ (le-leb checkpoint tip b)
    ∙ first_holds _ _ (le-leb (tip - oldest) 64 c) ∙ all_none

-- lengths in their ranges
pub record InRange (table journal : ℕ) : Type 0 where
  pub table_some : 1 ≤ table
  pub table_most : table ≤ 8000
  pub journal_some : 1 ≤ journal
  pub journal_most : journal ≤ 4096

pub lengths_facts : (table journal : ℕ) → are_lengths table journal ≡ true → InRange table journal
lengths_facts table journal e =
    record {
      table_some = leb-true _ _ (all_first _ _ e);
      table_most = leb-true _ _ (all_first _ _ (all_rest _ _ e));
      journal_some = leb-true _ _ (all_first _ _ (all_rest _ _ (all_rest _ _ e)));
      journal_most = leb-true _ _ (all_first _ _ (all_rest _ _ (all_rest _ _ (all_rest _ _ e))));
    }
