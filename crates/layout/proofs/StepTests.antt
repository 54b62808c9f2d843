-- The test of a step at a mark, as the loop over the marks meets it.
-- Assumes nothing.
use mathlib.Core.Path.{◌≡◌, ap}
use mathlib.Core.Bool.{true}
use mathlib.Core.List.{List, [], ◌∷◌}
use Prim.Native.Nat.{ℕ, zero, suc, ◌+◌, ◌-◌, ◌≤◌}
use native.Mathlib.Numerals.{add-one}
use native.Mathlib.Omega.{arith}
use borrow.Author.Tests.{leb-true}
use lib.Dec.{leb}
use lib.ListN.{length, get_or, take, drop}
use Rattle.changes.specs.Lists.{is_list}
use Rattle.changes.specs.Runs.{start_of, step_of}
use Rattle.layout.specs.Clauses.{is_step}
use Rattle.layout.specs.Tests.{all_below, all_of}
use Rattle.layout.proofs.Holds.{all_first, all_rest, all_at}

-- a step ends at its mark
pub start_next : (ends : List ℕ) (k : ℕ) → start_of ends (k + 1) ≡ get_or ends k 0
start_next ends k = ap (λ (n : ℕ). get_or (0 ∷ ends) n 0) (add-one k)

pub step_test : (journal ends : List ℕ) (k s e : ℕ) → s ≡ start_of ends k → e ≡ get_or ends k 0
    → all_of (leb s e ∷ leb e (length journal) ∷ is_list (take (e - s) (drop s journal)) ∷ []) ≡ is_step journal ends k
step_test journal ends k s e p q = rw (p, q, start_next ends k)

-- what the test of a step says
module _ (journal ends : List ℕ) (k : ℕ) (e : is_step journal ends k ≡ true) where
  pub step_rises : start_of ends k ≤ start_of ends (k + 1)
  step_rises = leb-true _ _ (all_first _ _ e)

  pub step_inside : start_of ends (k + 1) ≤ length journal
  step_inside = leb-true _ _ (all_first _ _ (all_rest _ _ e))

  pub step_list : is_list (step_of journal ends k) ≡ true
  step_list = all_first _ _ (all_rest _ _ (all_rest _ _ e))

-- the steps before a position lie within the journal
pub steps_inside : (journal ends : List ℕ) (n : ℕ) → all_below n (is_step journal ends) ≡ true → start_of ends n ≤ length journal
steps_inside journal ends zero e = omega arith
steps_inside journal ends (suc n) e = rw add-one at (step_inside journal ends n (all_at (is_step journal ends) (suc n) e n (omega arith)))
