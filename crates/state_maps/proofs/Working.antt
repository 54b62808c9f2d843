-- What is known of a state that a store holds, and its map worked out.
-- Assumes nothing.
use mathlib.Core.Path.{◌≡◌, sym, ap, ap₂, ◌∙◌}
use mathlib.Core.List.{List, ◌++◌}
use Prim.Native.Nat.{ℕ, ◌+◌, ◌-◌, ◌≤◌}
use native.Mathlib.Omega.{arith}
use lib.ListN.{length, take, drop, length-take}
use lib.Seq.{length-take-le, take_at, drop-append-add, drop-drop}
use Rattle.changes.specs.Calculus.{compose_all, apply}
use Rattle.changes.specs.Runs.{start_of, run_of, run_words}
use Rattle.changes.proofs.Laws.{apply-length}
use Rattle.changes.proofs.Running.{Marked-fewer, run_length}
use Rattle.runs.specs.Composed.{RunRoom, Composed}
use Rattle.layout.specs.declared.head.Head.{Head}
use Rattle.layout.proofs.HeadTests.{InRange, lengths_facts}
use Rattle.layout.specs.States.{step_index, steps_between, map_here}
use Rattle.views.specs.View.{Shaped}
use Rattle.views.proofs.SoundFacts.{used_long as used-words, Sound-Marked}
use Rattle.soundness.specs.Facts.{Sound}
use Rattle.soundness.proofs.Sounds.{Sound-facts}
use Rattle.state_maps.specs.Held.{HeldState, MapRoom, words_to}

-- the same facts of a held state, opened
pub record StateFacts (table journal : List ℕ) (head : Head) (state : ℕ) : Type 0 where
  pub range : InRange (length table) (length journal)
  pub sound : Sound table journal head
  pub low : head.checkpoint ≤ state
  pub high : state ≤ head.tip

pub state_facts : {table journal : List ℕ} {head : Head} {state : ℕ} → HeldState table journal head state
    → StateFacts table journal head state
state_facts {table} {journal} {head} {state} h =
    record {
      range = lengths_facts (length table) (length journal) h.lengths;
      sound = Sound-facts table journal head h.sound;
      low = h.low;
      high = h.high;
    }

module _ {table journal : List ℕ} {head : Head} {state : ℕ} (p : Shaped head) (ok : StateFacts table journal head state) where
  -- the used words of the table
  pub used_long : head.used ≡ length (take head.used table)
  used_long = sym (used-words ok.sound)

  -- composed the steps have at most their own words
  pub run_few : length (compose_all (steps_between journal head head.checkpoint state)) ≤ words_to head state
  run_few =
      let m = Sound-Marked table journal head p ok.sound in
      let low = step_index head head.checkpoint in
      let high = step_index head state in
      let sum : low + (high - low) ≡ high = omega (arith, ok.low) in
      let few = run_length journal head.ends _ m (high - low) low (omega (arith, ok.low, ok.high)) in
      omega (arith, few, ap (start_of head.ends) sum)

  -- the buffers have room for them
  room_here : {out spare : ℕ} → MapRoom head state out spare
      → RunRoom journal head.ends (step_index head head.checkpoint) (step_index head state) out spare
  room_here r =
      record {
        marked = Marked-fewer (Sound-Marked table journal head p ok.sound) (step_index head state) (omega (arith, ok.high));
        order = omega (arith, ok.low);
        out_room = r.changes_room;
        spare_room = omega (arith, r.map_room);
      }

  -- the same from and to numbers that are those of the steps from the checkpoint and from the state
  module _ {from to : ℕ} (ef : from ≡ step_index head head.checkpoint) (et : to ≡ step_index head state) where
    pub run_room : {out spare : ℕ} → MapRoom head state out spare → RunRoom journal head.ends from to out spare
    run_room r = rw (ef, et) (room_here r)

    steps_are : compose_all (run_of journal head.ends from (to - from)) ≡ compose_all (steps_between journal head head.checkpoint state)
    steps_are = ap₂ (λ (f t : ℕ). compose_all (run_of journal head.ends f (t - f))) ef et

    -- what stays past the words of the run stays past those of the steps
    stays : (a b : List ℕ) → drop (run_words head.ends from to) a ≡ drop (run_words head.ends from to) b
        → drop (words_to head state) a ≡ drop (words_to head state) b
    stays a b e =
        let same : run_words head.ends from to ≡ words_to head state = ap₂ (λ (f t : ℕ). run_words head.ends f t) ef et in
        ap (λ (k : ℕ). drop k a) (sym same) ∙ e ∙ ap (λ (k : ℕ). drop k b) same

    -- the steps composed into a buffer
    module _ {changes₀ spare₀ changes spare : List ℕ} {n : ℕ}
        (c : Composed journal head.ends from to changes₀ spare₀ changes spare n) where
      pub count_in : n ≤ length changes
      count_in = omega (arith, ap length c.front, c.size, length-take n changes)

      pub changes_long : n ≡ length (take n changes)
      changes_long = sym (length-take-le n changes count_in)

      pub changes_stay : drop (words_to head state) changes ≡ drop (words_to head state) changes₀
      changes_stay = stays changes changes₀ c.out_behind

      pub has_room : {out room : ℕ} → MapRoom head state out room → length spare ≡ room
          → length (take head.used table) + length (take n changes) ≤ length spare
      has_room r l = omega (arith, used_long, changes_long, c.size, ap length steps_are, run_few, r.map_room)

      -- and the map after them
      module _ (r : ℕ) (map : List ℕ) (er : r ≡ length (apply (take head.used table) (take n changes)))
          (em : map ≡ apply (take head.used table) (take n changes) ++ drop r spare) where
        pub size_is : r ≡ length (map_here table journal head state)
        size_is = er ∙ ap (λ (d : List ℕ). length (apply (take head.used table) d)) (c.front ∙ steps_are)

        pub map_is : take r map ≡ map_here table journal head state
        map_is =
            ap (take r) em
            ∙ take_at (apply (take head.used table) (take n changes)) (drop r spare) r (sym er)
            ∙ ap (apply (take head.used table)) (c.front ∙ steps_are)

        pub map_stays : drop (head.used + words_to head state) map ≡ drop (head.used + words_to head state) spare₀
        map_stays =
            let made = apply (take head.used table) (take n changes) in
            let past = head.used + words_to head state - length made in
            let few : length made ≤ head.used + words_to head state =
            omega (
              arith,
              apply-length (take head.used table) (take n changes),
              used_long,
              changes_long,
              c.size,
              ap length steps_are,
              run_few,
            ) in
            let all : head.used + words_to head state ≡ length made + past = omega arith in
            let over : r + past ≡ words_to head state + head.used = omega (arith, er) in
            let turned : words_to head state + head.used ≡ head.used + words_to head state = omega arith in
            ap (drop (head.used + words_to head state)) em
            ∙ ap (λ (k : ℕ). drop k (made ++ drop r spare)) all
            ∙ drop-append-add made (drop r spare) past
            ∙ drop-drop past r spare
            ∙ ap (λ (k : ℕ). drop k spare) over
            ∙ sym (drop-drop head.used (words_to head state) spare)
            ∙ ap (drop head.used) (stays spare spare₀ c.spare_behind)
            ∙ drop-drop head.used (words_to head state) spare₀
            ∙ ap (λ (k : ℕ). drop k spare₀) turned
