-- The kinds of orders, an equation for each.
-- Assumes nothing.
use mathlib.Core.Path.{◌≡◌}
use Prim.Native.Nat.{ℕ, ◌≤◌}
use native.Mathlib.Omega.{arith}
use Rattle.std.proofs.lemmas.Bool.Decides.{nat_tests}
use Rattle.orders.specs.Orders.{lists, withdraws, raises, cuts, keeps, kind_named}

module _ (k : ℕ) where
  pub kind_lists : k ≡ 0 → kind_named k ≡ lists
  unfolding kind_named
  kind_lists e = grind (arith, nat_tests)

  pub kind_withdraws : k ≡ 1 → kind_named k ≡ withdraws
  unfolding kind_named
  kind_withdraws e = grind (arith, nat_tests)

  pub kind_raises : k ≡ 2 → kind_named k ≡ raises
  unfolding kind_named
  kind_raises e = grind (arith, nat_tests)

  pub kind_cuts : k ≡ 3 → kind_named k ≡ cuts
  unfolding kind_named
  kind_cuts e = grind (arith, nat_tests)

  pub kind_keeps : 16 ≤ k → k ≤ 31 → kind_named k ≡ keeps
  unfolding kind_named
  kind_keeps l h = grind (arith, nat_tests)
