-- A test of every order, by its clauses.
-- Assumes nothing.
use mathlib.Core.Path.{◌≡◌, refl}
use mathlib.Core.Bool.{Bool, true, ◌&&◌}
use mathlib.Core.List.{List, [], ◌∷◌}
use Prim.Native.Nat.{ℕ}
use Rattle.changes.proofs.ListTest.{and_both}
use Rattle.execution.specs.Tests.{list_all}

module _ (test : ℕ → Bool) where
  pub all_none : list_all test [] ≡ true
  unfolding list_all
  all_none = refl

  pub all_one : (o : ℕ) (os : List ℕ) → list_all test (o ∷ os) ≡ (test o && list_all test os)
  unfolding list_all
  all_one o os = refl

  -- a test that holds of all holds of the first and of the rest
  pub all_first : (o : ℕ) (os : List ℕ) → list_all test (o ∷ os) ≡ true → test o ≡ true
  unfolding list_all
  all_first o os e = (and_both (test o) (list_all test os) e).0

  pub all_rest : (o : ℕ) (os : List ℕ) → list_all test (o ∷ os) ≡ true → list_all test os ≡ true
  unfolding list_all
  all_rest o os e = (and_both (test o) (list_all test os) e).1
