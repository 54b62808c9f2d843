-- The ends of the ranges at both sides: of lengths, lists, held steps, state numbers, places, what a caller has, states, looked-up offers,
-- depths and what they bar; and the largest count.
-- Assumes nothing.
use Rattle.std.specs.Prelude.{◌≡◌, true, false, List, ℕ, ◌+◌, ◌-◌, ◌^◌, ◌≤◌, ◌<◌, length}
use Rattle.changes.specs.Lists.{Changes, is_list}
use Rattle.answers.specs.declared.call.Caller.TheVariants.{Desk, Foyer}
use Rattle.answers.specs.declared.call.Reader.{Reader}
use Rattle.answers.specs.Counts.{largest}
use Rattle.layout.specs.declared.head.Head.{Head}
use Rattle.layout.specs.Clauses.{are_lengths, are_numbers}
use Rattle.layout.specs.States.{held_of}
use Rattle.commits.specs.Commit.{step_grounds}
use Rattle.lookups.specs.LookUp.{offer_grounds}
use Rattle.slots.specs.Callers.{reader_of, long_grounds}
use Rattle.slots.specs.Slots.{slot_grounds}
use Rattle.snapshot.specs.Snapshots.{fresh_grounds}
use Rattle.soundness.specs.Checks.{state_grounds, target_grounds}
use Rattle.conditions.specs.Grounds.{first_number}

pub record Ranges : Type 0 where
  -- "The book is 1 to 8,000 lent words", "Change memory is 1 to 4,096 lent words"
  pub lengths_in_range : (table journal : ℕ) → 1 ≤ table → table ≤ 8000 → 1 ≤ journal → journal ≤ 4096 → are_lengths table journal ≡ true
  pub no_table : (journal : ℕ) → are_lengths 0 journal ≡ false
  pub table_too_long : (table journal : ℕ) → 8001 ≤ table → are_lengths table journal ≡ false
  pub no_journal : (table : ℕ) → are_lengths table 0 ≡ false
  pub journal_too_long : (table journal : ℕ) → 4097 ≤ journal → are_lengths table journal ≡ false
  -- "A list is 0 to 64 such words with strictly rising offers."
  pub list_in_range : (l : List ℕ) → Changes l → length l ≤ 64 → is_list l ≡ true
  pub list_too_long : (l : List ℕ) → 65 ≤ length l → is_list l ≡ false
  -- "floor ≤ anchor ≤ tip, tip − floor at most 64"
  pub steps_in_range : (floor anchor tip : ℕ) → floor ≤ anchor → anchor ≤ tip → tip ≤ floor + 64 → are_numbers floor anchor tip ≡ true
  pub too_many_steps : (floor anchor tip : ℕ) → floor + 65 ≤ tip → are_numbers floor anchor tip ≡ false
  pub floor_too_high : (floor anchor tip : ℕ) → anchor < floor → are_numbers floor anchor tip ≡ false
  pub anchor_too_high : (floor anchor tip : ℕ) → tip < anchor → are_numbers floor anchor tip ≡ false
  -- "64 steps are held at a commit.", "The tip is 2^32 − 1 at a commit."
  pub step_left : (head : Head) → held_of head ≤ 63 → head.tip < 2 ^ 32 - 1 → first_number (step_grounds head) ≡ 0
  pub no_step_left : (head : Head) → held_of head ≡ 64 → head.tip < 2 ^ 32 - 1 → first_number (step_grounds head) ≡ 13
  pub last_state : (head : Head) → head.tip ≡ 2 ^ 32 - 1 → first_number (step_grounds head) ≡ 12
  -- "The place is above 7."
  pub slot_too_high : (reader : Reader) → 8 ≤ reader.slot → first_number (slot_grounds reader) ≡ 3
  -- "The foyer has places 6 and 7, the desk 0 to 5", and 19 is "a place that isn't the caller's"
  pub slot_of_the_desk : (slot : ℕ) → slot ≤ 5 → first_number (slot_grounds (reader_of Desk slot)) ≡ 0
  pub desk_at_the_foyers : (slot : ℕ) → 6 ≤ slot → slot ≤ 7 → first_number (slot_grounds (reader_of Desk slot)) ≡ 19
  pub slot_of_the_foyer : (slot : ℕ) → 6 ≤ slot → slot ≤ 7 → first_number (slot_grounds (reader_of Foyer slot)) ≡ 0
  pub foyer_at_the_desks : (slot : ℕ) → slot ≤ 5 → first_number (slot_grounds (reader_of Foyer slot)) ≡ 19
  -- "The desk stays at 64 words a list": what is a list is never too long for the desk
  pub list_of_the_desk : (list : List ℕ) → is_list list ≡ true → first_number (long_grounds Desk (length list)) ≡ 0
  -- "the foyer may issue and forward at most 16", and 18 is "a foyer list over 16 words"
  pub list_of_the_foyer : (list : List ℕ) → length list ≤ 16 → first_number (long_grounds Foyer (length list)) ≡ 0
  pub too_long_for_the_foyer : (list : List ℕ) → 17 ≤ length list → first_number (long_grounds Foyer (length list)) ≡ 18
  -- "The state named is below the anchor or above the tip."
  pub state_in_range : (head : Head) (state : ℕ) → head.checkpoint ≤ state → state ≤ head.tip → first_number (state_grounds head state) ≡ 0
  pub state_too_low : (head : Head) (state : ℕ) → state < head.checkpoint → first_number (state_grounds head state) ≡ 11
  pub state_too_high : (head : Head) (state : ℕ) → head.tip < state → first_number (state_grounds head state) ≡ 11
  -- "a looked-up offer is 2^31 or more"
  pub offer_in_range : (offer : ℕ) → offer < 2 ^ 31 → first_number (offer_grounds offer) ≡ 0
  pub offer_too_high : (offer : ℕ) → 2 ^ 31 ≤ offer → first_number (offer_grounds offer) ≡ 6
  -- "a depth from 0 to 63", and 20 is "a depth above 63"
  pub depth_in_range : (table journal depth : ℕ) → are_lengths table journal ≡ true → depth ≤ 63
      → first_number (fresh_grounds table journal depth) ≡ 0
  pub depth_too_high : (table journal depth : ℕ) → are_lengths table journal ≡ true → 64 ≤ depth
      → first_number (fresh_grounds table journal depth) ≡ 20
  -- "A flush to a state other than the anchor may go no higher than tip − depth", of a kept state
  pub flush_to_anchor : (head : Head) → head.checkpoint ≤ head.tip → first_number (target_grounds head head.checkpoint) ≡ 0
  pub flush_low_enough : (head : Head) (state : ℕ) → head.checkpoint ≤ state → state + head.depth ≤ head.tip
      → first_number (target_grounds head state) ≡ 0
  pub flush_too_high : (head : Head) (state : ℕ) → head.checkpoint < state → state ≤ head.tip → head.tip < state + head.depth
      → first_number (target_grounds head state) ≡ 20
  -- "counts of 64 bits"
  pub largest_count : largest ≡ 2 ^ 64 - 1
