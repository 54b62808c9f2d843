-- The depth that must stay (document 02, Q-6): "A house wants to be sure that it can still step back. A store is cleared or loaded with a
-- depth from 0 to 63, carried in the head from then on and fed to the plain list with the load's image; restart keeps it. A flush to a
-- state other than the anchor may go no higher than tip − depth. A sound head has such a depth. With depth 0 all earlier histories run as
-- they did. Turned away: 20, a depth above 63 or a flush so barred, tested after 11." What is said of the plain list, and of depth 0 over
-- runs, stands in Condition3.antt, and that a call that is turned away leaves the depth, in Condition1.antt.
-- Assumes nothing.
use Rattle.std.specs.Prelude.{◌≡◌, true, false, List, [], ◌∷◌, ◌++◌, ℕ, ◌+◌, ◌-◌, ◌≤◌, ◌<◌, ltb, length, get_or}
use Rattle.answers.specs.declared.call.Call.TheVariants.{Reset, Step}
use Rattle.answers.specs.declared.call.Reset.{Reset as ResetCall}
use Rattle.answers.specs.declared.call.Reset.TheVariants.{Clear, Load as LoadCall}
use Rattle.answers.specs.declared.call.Step.TheVariants.{RollBack, Flush}
use Rattle.answers.specs.declared.call.Format.{Format}
use Rattle.answers.specs.declared.ground.Ground.TheVariants.{TableFull}
use Rattle.answers.specs.Answers.{accepted, refused, said_by, is_accepted}
use Rattle.answers.specs.First.{met, first}
use Rattle.flushes.specs.Flush.{flush_check}
use Rattle.layout.specs.declared.head.Head.{Head}
use Rattle.layout.specs.Clauses.{are_lengths, is_table, are_numbers, is_journal, are_slots}
use Rattle.layout.specs.States.{held_of, map_here}
use Rattle.layout.specs.Tests.{all_of}
use Rattle.lent.specs.Lent.{tests_store}
use Rattle.snapshot.specs.Snapshots.{clear_check}
use Rattle.soundness.specs.Checks.{length_grounds, store_grounds, state_grounds, is_barred}
use Rattle.soundness.specs.Sound.{is_floor, is_sound}
use Rattle.unit.specs.Carried.{Carried, Asked}
use Rattle.views.specs.View.{Shaped}
use Rattle.conditions.specs.CCalls.{Memory, Result, CallOfC}
use Rattle.conditions.specs.Runs.{lending}
use Rattle.conditions.specs.Serving.{Seen, CallOfServe, handed}
use Rattle.conditions.specs.Written.{IsSound, IsLoaded}

-- the calls that are given a depth: a clear, and a load in a format
pub data Anew : Type 0 where
  clear : Anew
  load : Format → Anew

abbrev pub with_depth : ℕ → Anew → ResetCall
with_depth depth clear = Clear depth
with_depth depth (load format) = LoadCall depth format

abbrev pub making : ℕ → Anew → List ℕ → List ℕ → Asked
making depth anew words bytes = lending (Reset (with_depth depth anew)) words bytes

abbrev pub flushing : ℕ → List ℕ → List ℕ → Asked
flushing state words bytes = lending (Step (Flush state)) words bytes

pub record Depths : Type 0 where
  -- "cleared or loaded with a depth from 0 to 63": the head has the one that an accepted call was given;
  pub depth_set : (k : Carried) (depth : ℕ) (anew : Anew) (words bytes : List ℕ) (s : Seen)
      → CallOfServe k (making depth anew words bytes) s → is_accepted s.reply.answer ≡ true
      → (depth ≤ 63) × (s.reply.head.depth ≡ depth)
  -- and a clear with such a depth is accepted: "Clear gives the empty map as state 0"
  pub clears : (k : Carried) (depth : ℕ) (words bytes : List ℕ) (s : Seen)
      → are_lengths (length k.table) (length k.journal) ≡ true → depth ≤ 63 → CallOfServe k (making depth clear words bytes) s
      → (said_by s.reply.answer ≡ accepted 0) × IsLoaded k (handed s) [] 0 depth
  -- "a depth above 63" is 20, whatever else is wrong with the bytes
  pub depth_refused : (k : Carried) (depth : ℕ) (anew : Anew) (words bytes : List ℕ) (s : Seen)
      → CallOfServe k (making depth anew words bytes) s
      → are_lengths (length k.table) (length k.journal) ≡ true → 63 < depth → said_by s.reply.answer ≡ refused 20
  -- "carried in the head from then on", and "restart keeps it": any other call leaves it, refused or not
  pub depth_kept : (k : Carried) (a : Asked) (s : Seen) → tests_store a.call ≡ true → CallOfServe k a s
      → s.reply.head.depth ≡ k.head.depth
  -- "A sound head has such a depth"; with another every call that tests the store is 2 where the lengths are in range
  pub sound_depth : (k : Carried) → IsSound k → k.head.depth ≤ 63
  pub unsound_depth : (k : Carried) (a : Asked) (s : Seen) → tests_store a.call ≡ true → CallOfServe k a s
      → are_lengths (length k.table) (length k.journal) ≡ true → 63 < k.head.depth → said_by s.reply.answer ≡ refused 2
  -- "A flush to a state other than the anchor may go no higher than tip − depth": above it a kept state is 20,
  pub flush_barred : (k : Carried) (state : ℕ) (words bytes : List ℕ) (s : Seen)
      → IsSound k → k.head.checkpoint < state → state ≤ k.head.tip → k.head.tip < state + k.head.depth
      → CallOfServe k (flushing state words bytes) s → said_by s.reply.answer ≡ refused 20
  -- and no other flush is: neither one to the anchor nor one that leaves the depth
  pub flush_barred_only : (k : Carried) (state : ℕ) (words bytes : List ℕ) (s : Seen)
      → CallOfServe k (flushing state words bytes) s → said_by s.reply.answer ≡ refused 20
      → (k.head.checkpoint < state) × (state ≤ k.head.tip) × (k.head.tip < state + k.head.depth)
  -- "A house wants to be sure that it can still step back": after an accepted flush to a state other than the anchor, as many steps as the
  -- depth can be rolled back
  pub can_step_back : (k : Carried) (state : ℕ) (words bytes : List ℕ) (s : Seen)
      → Shaped k.head → CallOfServe k (flushing state words bytes) s → is_accepted s.reply.answer ≡ true
      → (state ≡ k.head.checkpoint → ⊥)
      → (steps : ℕ) (words' bytes' : List ℕ) (s' : Seen) → steps ≤ k.head.depth
      → CallOfServe (handed s) (lending (Step (RollBack (k.head.tip - steps))) words' bytes') s' → is_accepted s'.reply.answer ≡ true
  -- a flush to the anchor of a sound store is accepted, whatever the depth, and so is a rollback to any kept state: the tip may fall below
  -- the depth
  pub anchor_accepted : (k : Carried) (words bytes : List ℕ) (s : Seen)
      → IsSound k → CallOfServe k (flushing k.head.checkpoint words bytes) s → is_accepted s.reply.answer ≡ true
  pub rollback_accepted : (k : Carried) (state : ℕ) (words bytes : List ℕ) (s : Seen)
      → IsSound k → k.head.checkpoint ≤ state → state ≤ k.head.tip
      → CallOfServe k (lending (Step (RollBack state)) words bytes) s → is_accepted s.reply.answer ≡ true
  -- "With depth 0 all earlier histories run as they did", of any store: a clear has ground 1 alone, soundness asks what it did, a flush is
  -- not barred,
  pub depth_0_clears : (table journal : List ℕ) → clear_check table journal 0 ≡ first (length_grounds (length table) (length journal))
  pub depth_0_sound : (table journal : List ℕ) (head : Head) → head.depth ≡ 0
      → is_sound table journal head
      ≡ all_of
      (is_table table head.used
      ∷ are_numbers head.oldest head.checkpoint head.tip
      ∷ is_journal journal head.ends (held_of head)
      ∷ are_slots head.checkpoint head.taken head.issued
      ∷ is_floor head
      ∷ [])
  pub depth_0_bars_none : (head : Head) (state : ℕ) → head.depth ≡ 0 → state ≤ head.tip → is_barred head state ≡ false
  -- and a flush that is not barred, whatever the depth, has the grounds 1, 2, 11 and 16
  pub not_barred_flushes : (table journal : List ℕ) (head : Head) (state : ℕ) → is_barred head state ≡ false
      → flush_check table journal head state
      ≡ first
      (store_grounds table journal head
      ++ state_grounds head state
      ++ (met (ltb (length table) (length (map_here table journal head state))) TableFull ∷ []))
  -- what is said of `serve` of the C functions: word 84 of the head is the depth that an accepted clear or load was given, and any other
  -- call leaves it; a flush is as `c_as_served` has it
  pub c_depth_set : (m : Memory) (depth : ℕ) (anew : Anew) (words bytes : List ℕ) (r : Result)
      → CallOfC m (making depth anew words bytes) r → r.code ≡ 0 → (depth ≤ 63) × (get_or r.memory.head 84 0 ≡ depth)
  pub c_depth_refused : (m : Memory) (depth : ℕ) (anew : Anew) (words bytes : List ℕ) (r : Result)
      → CallOfC m (making depth anew words bytes) r
      → are_lengths (length m.table) (length m.journal) ≡ true → 63 < depth → r.code ≡ 20
  pub c_depth_kept : (m : Memory) (a : Asked) (r : Result) → tests_store a.call ≡ true → CallOfC m a r
      → get_or r.memory.head 84 0 ≡ get_or m.head 84 0
  pub c_unsound_depth : (m : Memory) (a : Asked) (r : Result) → tests_store a.call ≡ true → CallOfC m a r
      → are_lengths (length m.table) (length m.journal) ≡ true → 63 < get_or m.head 84 0 → r.code ≡ 2
