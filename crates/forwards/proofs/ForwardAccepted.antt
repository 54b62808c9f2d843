-- What an accepted forward knows of its memory.
-- Assumes nothing.
use mathlib.Core.Path.{◌≡◌}
use mathlib.Core.Bool.{true, false}
use mathlib.Core.List.{List, []}
use Prim.Native.Nat.{ℕ, ◌≤◌, ◌<◌}
use borrow.Author.Tests.{not-false, ltb-false}
use lib.ListN.{length, get_or}
use Rattle.changes.specs.Lists.{is_list}
use Rattle.answers.specs.declared.call.Reader.{Reader}
use Rattle.std.proofs.Common.{Ok}
use Rattle.answers.proofs.Firsts.{passed_not}
use Rattle.layout.specs.declared.head.Head.{Head}
use Rattle.layout.proofs.HeadTests.{InRange}
use Rattle.slots.specs.Callers.{most_words}
use Rattle.slots.proofs.Passed.{slot_passed}
use Rattle.soundness.proofs.Passed.{store_passed, state_passed}
use Rattle.soundness.specs.Facts.{Sound}
use Rattle.forwards.specs.Forward.{forward_check}

pub record ForwardOk (table journal : List ℕ) (head : Head) (reader : Reader) (state : ℕ) (words : List ℕ) : Type 0 where
  pub range : InRange (length table) (length journal)
  pub sound : Sound table journal head
  pub slot_in : reader.slot < 8
  pub taken : get_or head.taken reader.slot false ≡ true
  pub list_ok : is_list words ≡ true
  pub short : length words ≤ most_words reader.caller
  pub low : head.checkpoint ≤ state
  pub high : state ≤ head.tip

pub forward_ok : (table journal : List ℕ) (head : Head) (reader : Reader) (state : ℕ) (words : List ℕ)
    → forward_check table journal head reader state words ≡ Ok tt → ForwardOk table journal head reader state words
forward_ok table journal head reader state words e =
    let a = store_passed table journal head _ e in
    let c = slot_passed reader _ a.1 in
    let d = passed_not _ _ _ c.1 in
    let f = passed_not _ _ _ d.1 in
    let l = passed_not _ _ _ f.1 in
    let g = state_passed head state [] l.1 in
    record {
      range = a.0.range;
      sound = a.0.sound;
      slot_in = c.0;
      taken = not-false _ d.0;
      list_ok = not-false _ f.0;
      short = ltb-false (most_words reader.caller) (length words) l.0;
      low = g.0.0;
      high = g.0.1;
    }
