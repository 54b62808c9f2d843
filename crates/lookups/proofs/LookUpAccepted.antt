-- What an accepted lookup knows of its memory.
-- Assumes nothing.
use mathlib.Core.Path.{◌≡◌}
use mathlib.Core.List.{List, []}
use Prim.Native.Nat.{ℕ, ◌^◌, ◌≤◌, ◌<◌}
use borrow.Author.Tests.{leb-false}
use lib.ListN.{length}
use Rattle.answers.specs.declared.call.LookUp.{LookUp}
use Rattle.std.proofs.Common.{Ok}
use Rattle.answers.proofs.Firsts.{passed_not}
use Rattle.layout.specs.declared.head.Head.{Head}
use Rattle.layout.proofs.HeadTests.{InRange}
use Rattle.soundness.proofs.Passed.{store_passed, state_passed}
use Rattle.soundness.specs.Facts.{Sound}
use Rattle.lookups.specs.LookUp.{look_up_check}

pub record LookUpOk (table journal : List ℕ) (head : Head) (asked : LookUp) : Type 0 where
  pub range : InRange (length table) (length journal)
  pub sound : Sound table journal head
  pub offer_fits : asked.offer < 2 ^ 31
  pub low : head.checkpoint ≤ asked.state
  pub high : asked.state ≤ head.tip

pub look_up_ok : (table journal : List ℕ) (head : Head) (asked : LookUp) → look_up_check table journal head asked ≡ (Ok tt)
    → LookUpOk table journal head asked
look_up_ok table journal head asked e =
    let a = store_passed table journal head _ e in
    let c = passed_not _ _ _ a.1 in
    let d = state_passed head asked.state [] c.1 in
    record {
      range = a.0.range;
      sound = a.0.sound;
      offer_fits = leb-false (2 ^ 31) asked.offer c.0;
      low = d.0.0;
      high = d.0.1;
    }
