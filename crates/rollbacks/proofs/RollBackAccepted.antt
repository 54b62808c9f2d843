-- What an accepted rollback knows of its memory.
-- Assumes nothing.
use mathlib.Core.Path.{◌≡◌}
use mathlib.Core.List.{List, []}
use Prim.Native.Nat.{ℕ, ◌≤◌}
use lib.ListN.{length}
use Rattle.std.proofs.Common.{Ok}
use Rattle.layout.specs.declared.head.Head.{Head}
use Rattle.layout.proofs.HeadTests.{InRange}
use Rattle.soundness.proofs.Passed.{store_passed, state_passed}
use Rattle.soundness.specs.Facts.{Sound}
use Rattle.rollbacks.specs.RollBack.{roll_check}

-- a rollback
pub record RollOk (table journal : List ℕ) (head : Head) (state : ℕ) : Type 0 where
  pub range : InRange (length table) (length journal)
  pub sound : Sound table journal head
  pub low : head.checkpoint ≤ state
  pub high : state ≤ head.tip

pub roll_ok : (table journal : List ℕ) (head : Head) (state : ℕ) → roll_check table journal head state ≡ (Ok tt)
    → RollOk table journal head state
roll_ok table journal head state e =
    let a = store_passed table journal head _ e in
    let b = state_passed head state [] a.1 in
    record { range = a.0.range; sound = a.0.sound; low = b.0.0; high = b.0.1 }
