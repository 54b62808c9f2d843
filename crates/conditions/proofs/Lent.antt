-- What an accepted call on a place was lent, and whose place it names.
-- Assumes nothing.
use mathlib.Core.Path.{◌≡◌, refl}
use mathlib.Core.Bool.{true, false}
use mathlib.Core.List.{List, [], ◌∷◌, ◌++◌}
use Prim.Native.Nat.{ℕ, ◌≤◌, ◌<◌}
use native.Mathlib.Omega.{arith}
use borrow.Author.Tests.{ltb-true, leb-true}
use lib.ListN.{length}
use Rattle.changes.specs.Lists.{is_list, has_no_put}
use Rattle.std.proofs.Common.{Ok}
use Rattle.answers.specs.declared.call.Call.TheVariants.{Read}
use Rattle.answers.specs.declared.call.Caller.{Caller}
use Rattle.answers.specs.declared.call.Caller.TheVariants.{Desk, Foyer}
use Rattle.answers.specs.declared.call.Read.{Read as ReadCall}
use Rattle.answers.specs.declared.call.Read.TheVariants.{Issue, Forward, Release}
use Rattle.answers.specs.declared.call.Reader.{Reader}
use Rattle.answers.specs.First.{Test, met, first}
use Rattle.issues.proofs.IssueAccepted.{IssueOk, issue_ok}
use Rattle.forwards.proofs.ForwardAccepted.{ForwardOk, forward_ok}
use Rattle.slots.specs.Callers.{reader_of, has_slot}
use Rattle.slots.specs.Slots.{slot_grounds}
use Rattle.slots.proofs.Passed.{slot_passed, slot_own}
use Rattle.soundness.specs.Checks.{store_grounds}
use Rattle.soundness.proofs.Passed.{store_passed}
use Rattle.unit.specs.Carried.{Carried}
use Rattle.conditions.specs.Condition1.{tests_of, reader_in, Own}
use Rattle.conditions.specs.Grounds.{none_met}
use Rattle.conditions.specs.Runs.{lending}

none_passed : (gs : List Test) → none_met gs ≡ true → first gs ≡ (Ok tt)
unfolding first none_met
none_passed [] e = refl
none_passed (met true ground ∷ gs) e = absurd (let z : ◌≡◌ {A = ℕ} 0 1 = cc in omega arith)
none_passed (met false ground ∷ gs) e = none_passed gs e

module _ (k : Carried) (words bytes : List ℕ) where
  module _ (reader : Reader) (e : none_met (tests_of k (lending (Read (Issue reader)) words bytes)) ≡ true) where
    issued : IssueOk k.table k.journal k.head reader words
    issued = issue_ok k.table k.journal k.head reader words (none_passed _ e)

    pub issue_list : (is_list words ≡ true) × (has_no_put words ≡ true)
    issue_list = (issued.list_ok, issued.no_put)

  module _ (reader : Reader) (state : ℕ) (e : none_met (tests_of k (lending (Read (Forward reader state)) words bytes)) ≡ true) where
    forwarded : ForwardOk k.table k.journal k.head reader state words
    forwarded = forward_ok k.table k.journal k.head reader state words (none_passed _ e)

    pub forward_list : is_list words ≡ true
    forward_list = forwarded.list_ok

  pub issue_sixteen : (slot : ℕ) → none_met (tests_of k (lending (Read (Issue (reader_of Foyer slot))) words bytes)) ≡ true
      → length words ≤ 16
  issue_sixteen slot e = (issued (reader_of Foyer slot) e).short

  pub forward_sixteen : (slot state : ℕ) → none_met (tests_of k (lending (Read (Forward (reader_of Foyer slot) state)) words bytes)) ≡ true
      → length words ≤ 16
  forward_sixteen slot state e = (forwarded (reader_of Foyer slot) state e).short

-- a place that passed grounds 3 and 19
Own-by : (caller : Caller) (slot : ℕ) → slot < 8 → has_slot caller slot ≡ true → Own caller slot
Own-by Desk slot h e = omega (arith, ltb-true slot 6 e)
Own-by Foyer slot h e = (leb-true 6 slot e, omega (arith, h))

Own-passed : (k : Carried) (reader : Reader) (gs : List Test)
    → first (store_grounds k.table k.journal k.head ++ slot_grounds reader ++ gs) ≡ (Ok tt)
    → Own reader.caller reader.slot
Own-passed k reader gs e =
    let p = (store_passed k.table k.journal k.head _ e).1 in
    Own-by reader.caller reader.slot (slot_passed reader gs p).0 (slot_own reader gs p)

pub Own-place : (k : Carried) (call : ReadCall) (words bytes : List ℕ)
    → none_met (tests_of k (lending (Read call) words bytes)) ≡ true → Own (reader_in call).caller (reader_in call).slot
Own-place k (Issue reader) words bytes e = Own-passed k reader _ (none_passed _ e)
Own-place k (Forward reader state) words bytes e = Own-passed k reader _ (none_passed _ e)
Own-place k (Release reader) words bytes e = Own-passed k reader _ (none_passed _ e)
