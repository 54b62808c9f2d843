-- Words made that are gathered: what is written of them so far, and those behind.
-- Assumes nothing.
use mathlib.Core.Path.{◌≡◌}
use mathlib.Core.List.{List, ◌++◌}
use Prim.Native.Nat.{ℕ, ◌≤◌}
use lib.ListN.{length, take, drop}
use Rattle.std.proofs.Common.{Option}
use Rattle.execution.specs.Working.{made}

-- what is written, with the words made behind, is all
pub record Gathered (words : List (Option ℕ)) (out : List ℕ) (n i : ℕ) : Type 0 where
  pub room : length out ≡ length (made words)
  pub inside : n ≤ length out
  pub so_far : take n out ++ made (drop i words) ≡ made words
