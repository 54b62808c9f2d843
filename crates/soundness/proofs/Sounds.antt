-- Soundness as a record of facts, from the test and back.
-- Assumes nothing.
use mathlib.Core.Path.{◌≡◌, ◌∙◌}
use mathlib.Core.Bool.{true}
use mathlib.Core.List.{List}
use Prim.Native.Nat.{ℕ, ◌≤◌, ◌<◌}
use borrow.Author.Tests.{le-leb, leb-true, eq-eqb, eqb-true}
use lib.ListN.{length, take, drop}
use Rattle.changes.specs.Lists.{Map}
use Rattle.changes.proofs.MapTest.{map_of, of_map}
use Rattle.layout.specs.declared.head.Head.{Head}
use Rattle.layout.specs.States.{held_of}
use Rattle.layout.specs.Clauses.{is_table, is_journal, is_slot}
use Rattle.soundness.specs.Sound.{is_sound}
use Rattle.soundness.specs.Facts.{Sound}
use Rattle.layout.specs.Tests.{are_zeros, least}
use Rattle.layout.proofs.HeadTests.{numbers_facts, facts_numbers}
use Rattle.layout.proofs.Holds.{first_holds, all_first, all_rest, all_none, all_at, all_of_lem}

module _ (table journal : List ℕ) (head : Head) where
  pub Sound-facts : is_sound table journal head ≡ true → Sound table journal head
  unfolding is_sound
  Sound-facts e =
      let r1 = all_rest _ _ e in
      let r2 = all_rest _ _ r1 in
      let r3 = all_rest _ _ r2 in
      let r4 = all_rest _ _ r3 in
      let r5 = all_rest _ _ r4 in
      let t = all_first _ _ e in
      let n = numbers_facts head.oldest head.checkpoint head.tip (all_first _ _ r1) in
      record {
        used_in = leb-true _ _ (all_first _ _ t);
        map = map_of _ (all_first _ _ (all_rest _ _ t));
        table_zeros = all_first _ _ (all_rest _ _ (all_rest _ _ t));
        low = n.0;
        high = n.1;
        few = n.2;
        lists = all_first _ _ r2;
        slots = all_at (is_slot head.checkpoint head.taken head.issued) 8 (all_first _ _ r3);
        oldest = eqb-true _ _ (all_first _ _ r4);
        deep = leb-true _ _ (all_first _ _ r5);
      }

  is_table_lem : Sound table journal head → is_table table head.used ≡ true
  is_table_lem s =
      first_holds _ _ (le-leb head.used (length table) s.used_in)
      ∙ first_holds _ _ (of_map _ s.map)
      ∙ first_holds _ _ s.table_zeros
      ∙ all_none

  pub facts_Sound : Sound table journal head → is_sound table journal head ≡ true
  unfolding is_sound
  facts_Sound s =
      first_holds _ _ (is_table_lem s)
      ∙ first_holds _ _ (facts_numbers head.oldest head.checkpoint head.tip s.low s.high s.few)
      ∙ first_holds _ _ s.lists
      ∙ first_holds _ _ (all_of_lem (is_slot head.checkpoint head.taken head.issued) 8 s.slots)
      ∙ first_holds _ _ (eq-eqb head.oldest (least head.checkpoint head.taken head.issued) s.oldest)
      ∙ first_holds _ _ (le-leb head.depth 63 s.deep)
      ∙ all_none
