-- The ends of the ranges, proved.
-- Assumes nothing.
use mathlib.Core.Path.{◌≡◌, refl, ◌∙◌}
use mathlib.Core.Bool.{Bool, true, false, not, ◌&&◌}
use mathlib.Core.List.{List, [], ◌∷◌}
use Prim.Native.Nat.{ℕ, ◌+◌, ◌-◌, ◌^◌, ◌≤◌, ◌<◌}
use native.Mathlib.Omega.{arith}
use borrow.Author.Tests.{le-leb, lt-leb, lt-ltb, le-ltb, ne_eqb, eq-eqb}
use lib.Dec.{eqb, ltb}
use lib.ListN.{length}
use Rattle.changes.specs.Lists.{is_list}
use Rattle.changes.proofs.Laws.{Changes-test}
use Rattle.changes.proofs.ListTest.{list_facts}
use Rattle.answers.specs.declared.call.Caller.TheVariants.{Desk, Foyer}
use Rattle.answers.specs.declared.call.Reader.{Reader}
use Rattle.answers.specs.declared.ground.Ground.TheVariants.{TooDeep}
use Rattle.answers.specs.First.{met}
use Rattle.layout.specs.declared.head.Head.{Head}
use Rattle.layout.specs.Clauses.{are_lengths, are_numbers}
use Rattle.layout.proofs.HeadTests.{numbers_facts, facts_numbers, lengths_facts}
use Rattle.layout.proofs.Holds.{first_holds, all_none}
use Rattle.layout.specs.States.{held_of}
use Rattle.commits.specs.Commit.{step_grounds}
use Rattle.lookups.specs.LookUp.{offer_grounds}
use Rattle.slots.specs.Callers.{reader_of, long_grounds}
use Rattle.slots.specs.Slots.{slot_grounds}
use Rattle.snapshot.specs.Snapshots.{fresh_grounds}
use Rattle.soundness.specs.Checks.{state_grounds, target_grounds}
use Rattle.conditions.specs.Grounds.{first_number}
use Rattle.conditions.specs.Ranges.{Ranges}

is_false : (b : Bool) → (b ≡ true → ⊥) → b ≡ false
is_false true h = absurd (h refl)
is_false false h = refl

in_lengths : (table journal : ℕ) → 1 ≤ table → table ≤ 8000 → 1 ≤ journal → journal ≤ 4096 → are_lengths table journal ≡ true
in_lengths table journal a b c d =
    first_holds _ _ (le-leb 1 table a)
    ∙ first_holds _ _ (le-leb table 8000 b)
    ∙ first_holds _ _ (le-leb 1 journal c)
    ∙ first_holds _ _ (le-leb journal 4096 d)
    ∙ all_none

long_list : (l : List ℕ) → 65 ≤ length l → is_list l ≡ false
long_list l h = is_false (is_list l) (λ e. omega (arith, (list_facts l e).0))

slot_high : (reader : Reader) → 8 ≤ reader.slot → first_number (slot_grounds reader) ≡ 3
unfolding first_number
slot_high reader h = rw (le-leb 8 reader.slot h) refl

module _ (slot : ℕ) where
  desk_has : slot ≤ 5 → first_number (slot_grounds (reader_of Desk slot)) ≡ 0
  unfolding first_number
  desk_has h = rw (lt-leb 8 slot (omega arith)) (rw (lt-ltb slot 6 (omega arith)) refl)

  desk_lacks : 6 ≤ slot → slot ≤ 7 → first_number (slot_grounds (reader_of Desk slot)) ≡ 19
  unfolding first_number
  desk_lacks h i = rw (lt-leb 8 slot (omega arith)) (rw (le-ltb slot 6 h) refl)

  foyer_has : 6 ≤ slot → slot ≤ 7 → first_number (slot_grounds (reader_of Foyer slot)) ≡ 0
  unfolding first_number
  foyer_has h i = rw (lt-leb 8 slot (omega arith)) (rw (le-leb 6 slot h) refl)

  foyer_lacks : slot ≤ 5 → first_number (slot_grounds (reader_of Foyer slot)) ≡ 19
  unfolding first_number
  foyer_lacks h = rw (lt-leb 8 slot (omega arith)) (rw (lt-leb 6 slot (omega arith)) refl)

module _ (list : List ℕ) where
  desk_list : is_list list ≡ true → first_number (long_grounds Desk (length list)) ≡ 0
  unfolding first_number
  desk_list e = rw (le-ltb 64 (length list) (list_facts list e).0) refl

  foyer_list : length list ≤ 16 → first_number (long_grounds Foyer (length list)) ≡ 0
  unfolding first_number
  foyer_list h = rw (le-ltb 16 (length list) h) refl

  foyer_long : 17 ≤ length list → first_number (long_grounds Foyer (length list)) ≡ 18
  unfolding first_number
  foyer_long h = rw (lt-ltb 16 (length list) h) refl

module _ (head : Head) (state : ℕ) where
  state_in : head.checkpoint ≤ state → state ≤ head.tip → first_number (state_grounds head state) ≡ 0
  unfolding first_number
  state_in h i = rw (le-ltb state head.checkpoint h) (rw (le-ltb head.tip state i) refl)

  state_low : state < head.checkpoint → first_number (state_grounds head state) ≡ 11
  unfolding first_number
  state_low h = rw (lt-ltb state head.checkpoint h) refl

  state_high : head.tip < state → first_number (state_grounds head state) ≡ 11
  unfolding first_number
  state_high h = go (ltb state head.checkpoint) refl
    where
      go : (t : Bool) → ltb state head.checkpoint ≡ t → first_number (state_grounds head state) ≡ 11
      go true e = rw e refl
      go false e = rw e (rw (lt-ltb head.tip state h) refl)

module _ (head : Head) where
  steps_few : held_of head ≤ 63 → head.tip < 2 ^ 32 - 1 → first_number (step_grounds head) ≡ 0
  unfolding first_number
  steps_few h i =
      rw (ne_eqb head.tip 4294967295 (λ e. omega (arith, i, e))) (rw (ne_eqb (held_of head) 64 (λ e. omega (arith, h, e))) refl)

  steps_full : held_of head ≡ 64 → head.tip < 2 ^ 32 - 1 → first_number (step_grounds head) ≡ 13
  unfolding first_number
  steps_full h i = rw (ne_eqb head.tip 4294967295 (λ e. omega (arith, i, e))) (rw (eq-eqb (held_of head) 64 h) refl)

  tip_last : head.tip ≡ 2 ^ 32 - 1 → first_number (step_grounds head) ≡ 12
  unfolding first_number
  tip_last h = rw (eq-eqb head.tip 4294967295 h) refl

module _ (offer : ℕ) where
  offer_low : offer < 2 ^ 31 → first_number (offer_grounds offer) ≡ 0
  unfolding first_number
  offer_low h = rw (lt-leb (2 ^ 31) offer h) refl

  offer_high : 2 ^ 31 ≤ offer → first_number (offer_grounds offer) ≡ 6
  unfolding first_number
  offer_high h = rw (le-leb (2 ^ 31) offer h) refl

module _ (table journal depth : ℕ) (l : are_lengths table journal ≡ true) where
  depth_low : depth ≤ 63 → first_number (fresh_grounds table journal depth) ≡ 0
  unfolding first_number
  depth_low h = rw l (rw (le-leb depth 63 h) refl)

  depth_high : 64 ≤ depth → first_number (fresh_grounds table journal depth) ≡ 20
  unfolding first_number
  depth_high h = rw l (rw (lt-leb depth 63 h) refl)

to_anchor : (head : Head) → head.checkpoint ≤ head.tip → first_number (target_grounds head head.checkpoint) ≡ 0
unfolding first_number
to_anchor head h =
    rw (le-ltb head.checkpoint head.checkpoint (omega arith))
    (rw (le-ltb head.tip head.checkpoint h) (rw (eq-eqb head.checkpoint head.checkpoint refl) refl))

module _ (head : Head) (state : ℕ) where
  low_enough : head.checkpoint ≤ state → state + head.depth ≤ head.tip → first_number (target_grounds head state) ≡ 0
  unfolding first_number
  low_enough h i =
      rw (le-ltb state head.checkpoint h)
      (rw (le-ltb head.tip state (omega arith))
      (rw (le-ltb head.tip (state + head.depth) i) (go (eqb state head.checkpoint))))
    where
      go : (b : Bool) → first_number (met (not b && false) TooDeep ∷ []) ≡ 0
      go true = refl
      go false = refl

  too_high : head.checkpoint < state → state ≤ head.tip → head.tip < state + head.depth
      → first_number (target_grounds head state) ≡ 20
  unfolding first_number
  too_high h i j =
      rw (le-ltb state head.checkpoint (omega arith))
      (rw (le-ltb head.tip state i)
      (rw (ne_eqb state head.checkpoint (λ e. omega (arith, h, e))) (rw (lt-ltb head.tip (state + head.depth) j) refl)))

pub ranges : Ranges
ranges = record {
  lengths_in_range = in_lengths;
  no_table = λ journal. is_false (are_lengths 0 journal) (λ e. omega (arith, (lengths_facts 0 journal e).table_some));
  table_too_long = λ table journal h. is_false (are_lengths table journal)
      (λ e. omega (arith, h, (lengths_facts table journal e).table_most));
  no_journal = λ table. is_false (are_lengths table 0) (λ e. omega (arith, (lengths_facts table 0 e).journal_some));
  journal_too_long = λ table journal h.
      is_false (are_lengths table journal) (λ e. omega (arith, h, (lengths_facts table journal e).journal_most));
  list_in_range = λ l c h. rw (le-leb (length l) 64 h) (Changes-test l c);
  list_too_long = long_list;
  steps_in_range = λ f a t h i j. facts_numbers f a t h i (omega (arith, j));
  too_many_steps = λ f a t h. is_false (are_numbers f a t) (λ e. omega (arith, h, (numbers_facts f a t e).2));
  floor_too_high = λ f a t h. is_false (are_numbers f a t) (λ e. omega (arith, h, (numbers_facts f a t e).0));
  anchor_too_high = λ f a t h. is_false (are_numbers f a t) (λ e. omega (arith, h, (numbers_facts f a t e).1));
  step_left = steps_few;
  no_step_left = steps_full;
  last_state = tip_last;
  slot_too_high = slot_high;
  slot_of_the_desk = desk_has;
  desk_at_the_foyers = desk_lacks;
  slot_of_the_foyer = foyer_has;
  foyer_at_the_desks = foyer_lacks;
  list_of_the_desk = desk_list;
  list_of_the_foyer = foyer_list;
  too_long_for_the_foyer = foyer_long;
  state_in_range = state_in;
  state_too_low = state_low;
  state_too_high = state_high;
  offer_in_range = offer_low;
  offer_too_high = offer_high;
  depth_in_range = depth_low;
  depth_too_high = depth_high;
  flush_to_anchor = to_anchor;
  flush_low_enough = low_enough;
  flush_too_high = too_high;
  largest_count = refl;
}
