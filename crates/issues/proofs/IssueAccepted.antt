-- What an accepted issue knows of its memory.
-- Assumes nothing.
use mathlib.Core.Path.{◌≡◌}
use mathlib.Core.Bool.{true, false}
use mathlib.Core.List.{List}
use Prim.Native.Nat.{ℕ, ◌<◌, ◌≤◌}
use borrow.Author.Tests.{not-false, ltb-false}
use lib.ListN.{length, take, get_or}
use Rattle.entry.specs.Word.{offer_of, none_of}
use Rattle.changes.specs.Lists.{is_list, has_no_put, All}
use Rattle.changes.specs.ReadSets.{read_of, over}
use Rattle.changes.proofs.Laws.{fill_none}
use Rattle.changes.proofs.ListTest.{list_facts}
use Rattle.changes.proofs.NoPuts.{show_none}
use Rattle.answers.specs.declared.call.Reader.{Reader}
use Rattle.std.proofs.Common.{Ok}
use Rattle.answers.proofs.Firsts.{passed_not}
use Rattle.layout.specs.declared.head.Head.{Head}
use Rattle.layout.proofs.HeadTests.{InRange}
use Rattle.slots.specs.Callers.{most_words}
use Rattle.slots.proofs.Passed.{slot_passed}
use Rattle.soundness.proofs.Passed.{store_passed}
use Rattle.soundness.specs.Facts.{Sound}
use Rattle.issues.specs.Issue.{issue_check}

pub record IssueOk (table journal : List ℕ) (head : Head) (reader : Reader) (list : List ℕ) : Type 0 where
  pub range : InRange (length table) (length journal)
  pub sound : Sound table journal head
  pub slot_in : reader.slot < 8
  pub free : get_or head.taken reader.slot false ≡ false
  pub list_ok : is_list list ≡ true
  pub no_put : has_no_put list ≡ true
  pub short : length list ≤ most_words reader.caller
  pub none : All (λ w. w ≡ none_of (offer_of w)) list

pub issue_ok : (table journal : List ℕ) (head : Head) (reader : Reader) (list : List ℕ)
    → issue_check table journal head reader list ≡ Ok tt → IssueOk table journal head reader list
issue_ok table journal head reader list e =
    let a = store_passed table journal head _ e in
    let c = slot_passed reader _ a.1 in
    let d = passed_not _ _ _ c.1 in
    let f = passed_not _ _ _ d.1 in
    let g = passed_not _ _ _ f.1 in
    let h = passed_not _ _ _ g.1 in
    let l : is_list list ≡ true = not-false _ f.0 in
    record {
      range = a.0.range;
      sound = a.0.sound;
      slot_in = c.0;
      free = d.0;
      list_ok = l;
      no_put = not-false _ g.0;
      short = ltb-false (most_words reader.caller) (length list) h.0;
      none = show_none list (list_facts list l).2 (not-false _ g.0);
    }

module _ {table journal : List ℕ} {head : Head} {reader : Reader} {list : List ℕ} (ok : IssueOk table journal head reader list) where
  pub list_filled : over list (take head.used table) ≡ read_of (take head.used table) list
  list_filled = fill_none (take head.used table) list ok.none
