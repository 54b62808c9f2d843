-- What a call knows of its slot where neither ground 3 nor 19 is met.
-- Assumes nothing.
use mathlib.Core.Path.{◌≡◌}
use mathlib.Core.Bool.{true}
use mathlib.Core.List.{List, ◌++◌}
use Prim.Native.Nat.{◌<◌}
use borrow.Author.Tests.{leb-false, not-false}
use Rattle.std.proofs.Common.{Ok}
use Rattle.answers.specs.declared.call.Reader.{Reader}
use Rattle.answers.specs.First.{Test, first}
use Rattle.answers.proofs.Firsts.{passed_not}
use Rattle.slots.specs.Callers.{has_slot}
use Rattle.slots.specs.Slots.{slot_grounds}

pub slot_passed : (reader : Reader) (gs : List Test) → first (slot_grounds reader ++ gs) ≡ Ok tt
    → (reader.slot < 8) × (first gs ≡ Ok tt)
slot_passed reader gs e =
    let a = passed_not _ _ _ e in
    let b = passed_not _ _ _ a.1 in
    (leb-false 8 reader.slot a.0, b.1)

pub slot_own : (reader : Reader) (gs : List Test) → first (slot_grounds reader ++ gs) ≡ Ok tt → has_slot reader.caller reader.slot ≡ true
slot_own reader gs e = not-false _ (passed_not _ _ _ (passed_not _ _ _ e).1).0
