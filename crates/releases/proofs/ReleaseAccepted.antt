-- What an accepted release knows of its memory.
-- Assumes nothing.
use mathlib.Core.Path.{◌≡◌}
use mathlib.Core.Bool.{true, false}
use mathlib.Core.List.{List}
use Prim.Native.Nat.{ℕ, ◌<◌}
use borrow.Author.Tests.{not-false}
use lib.ListN.{length, get_or}
use Rattle.answers.specs.declared.call.Reader.{Reader}
use Rattle.std.proofs.Common.{Ok}
use Rattle.answers.proofs.Firsts.{passed_not}
use Rattle.layout.specs.declared.head.Head.{Head}
use Rattle.layout.proofs.HeadTests.{InRange}
use Rattle.slots.proofs.Passed.{slot_passed}
use Rattle.soundness.proofs.Passed.{store_passed}
use Rattle.soundness.specs.Facts.{Sound}
use Rattle.releases.specs.Release.{release_check}

pub record ReleaseOk (table journal : List ℕ) (head : Head) (reader : Reader) : Type 0 where
  pub range : InRange (length table) (length journal)
  pub sound : Sound table journal head
  pub slot_in : reader.slot < 8
  pub taken : get_or head.taken reader.slot false ≡ true

pub release_ok : (table journal : List ℕ) (head : Head) (reader : Reader) → release_check table journal head reader
    ≡ Ok tt → ReleaseOk table journal head reader
release_ok table journal head reader e =
    let a = store_passed table journal head _ e in
    let c = slot_passed reader _ a.1 in
    let d = passed_not _ _ _ c.1 in
    record { range = a.0.range; sound = a.0.sound; slot_in = c.0; taken = not-false _ d.0 }
