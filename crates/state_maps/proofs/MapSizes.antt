-- How large the map at a held state is, and that it is the table's where the steps to the state have no words.
-- Assumes nothing.
use mathlib.Core.Path.{◌≡◌, refl, sym, ap, subst, ◌∙◌}
use mathlib.Core.Bool.{not}
use mathlib.Core.List.{List, [], ◌∷◌, ◌++◌}
use Prim.Native.Nat.{ℕ, ◌-◌, ◌≤◌}
use native.Mathlib.Omega.{arith}
use borrow.Author.Tests.{le-ltb, not-false}
use lib.ListN.{length, take, length-take}
use Rattle.changes.specs.Calculus.{compose_all, apply}
use Rattle.changes.specs.Lists.{Map}
use Rattle.changes.specs.Runs.{start_of, run_of}
use Rattle.changes.proofs.Applying.{compose_all-nil}
use Rattle.changes.proofs.Laws.{apply-length, apply_zero}
use Rattle.changes.proofs.Running.{Marked-fewer, run_none}
use Rattle.answers.specs.Check.{Check}
use Rattle.std.proofs.Common.{Ok}
use Rattle.answers.specs.First.{Test, first}
use Rattle.answers.proofs.Firsts.{first_not, passed_not}
use Rattle.layout.specs.declared.head.Head.{Head}
use Rattle.layout.specs.States.{step_index, steps_between, map_here}
use Rattle.soundness.specs.Checks.{store_grounds, state_grounds}
use Rattle.soundness.proofs.Passed.{state_passed}
use Rattle.soundness.specs.Facts.{Sound}
use Rattle.views.specs.View.{Shaped, decode}
use Rattle.views.proofs.SoundFacts.{used_long, Sound-Marked}
use Rattle.views.proofs.States.{at_map, map_is}
use Rattle.views.proofs.Views.{decoded_Good}
use Rattle.state_maps.specs.Held.{HeldState, MapRoom, words_to}
use Rattle.state_maps.proofs.Working.{StateFacts, run_few}

-- a store and a state that pass grounds 1, 2 and 11
pub held_known : (table journal : List ℕ) (head : Head) (state : ℕ) {check : Check}
    → check ≡ first (store_grounds table journal head ++ state_grounds head state) → check ≡ (Ok tt) → HeldState table journal head state
held_known table journal head state e d =
    let a = passed_not _ _ _ (sym e ∙ d) in
    let b = passed_not _ _ _ a.1 in
    let s = state_passed head state [] b.1 in
    record { lengths = not-false _ a.0; sound = not-false _ b.0; low = s.0.0; high = s.0.1 }

-- and what is left to be tested of such a state
pub past_held : {table journal : List ℕ} {head : Head} {state : ℕ} → HeldState table journal head state → (gs : List Test)
    → first (store_grounds table journal head ++ state_grounds head state ++ gs) ≡ first gs
past_held {table} {journal} {head} {state} h gs =
    first_not _ _ _ (ap not h.lengths)
    ∙ first_not _ _ _ (ap not h.sound)
    ∙ first_not _ _ _ (le-ltb state head.checkpoint h.low)
    ∙ first_not _ _ _ (le-ltb head.tip state h.high)

-- a list with no word
nothing_in : (l : List ℕ) → length l ≤ 0 → l ≡ []
nothing_in [] h = refl
nothing_in (x ∷ l) h = absurd (omega arith)

-- the map at the checkpoint is the table's
pub map_at_checkpoint : (table journal : List ℕ) (head : Head) → Sound table journal head
    → map_here table journal head head.checkpoint ≡ take head.used table
map_at_checkpoint table journal head s =
    let at = step_index head head.checkpoint in
    let none : at - at ≡ 0 = omega arith in
    ap (λ (n : ℕ). apply (take head.used table) (compose_all (run_of journal head.ends at n))) none
    ∙ ap (λ (ds : List (List ℕ)). apply (take head.used table) (compose_all ds)) (run_none journal head.ends at)
    ∙ ap (apply (take head.used table)) compose_all-nil
    ∙ apply_zero (take head.used table) s.map

-- the steps to the checkpoint have no words
pub no_words : (head : Head) (state : ℕ) → state ≡ head.checkpoint → words_to head state ≡ 0
no_words head state e =
    let same : words_to head head.checkpoint ≡ 0 = omega arith in
    ap (words_to head) e ∙ same

module _ {table journal : List ℕ} {head : Head} {state : ℕ} (ok : StateFacts table journal head state) where
  -- the map at the state, at the start of a buffer
  module _ {size : ℕ} (map : List ℕ) (es : size ≡ length (map_here table journal head state))
      (em : take size map ≡ map_here table journal head state) where
    pub map_long : size ≡ length (take size map)
    map_long = es ∙ ap length (sym em)

    pub map_in : size ≤ length map
    map_in = omega (arith, map_long, length-take size map)

  module _ (p : Shaped head) where
    -- what the steps to the state have of words
    pub starts_rise : start_of head.ends (step_index head head.checkpoint) ≤ start_of head.ends (step_index head state)
    starts_rise =
        let m = Sound-Marked table journal head p ok.sound in
        m.rises (step_index head head.checkpoint) (step_index head state) (omega (arith, ok.low)) (omega (arith, ok.high))

    pub most_room : MapRoom head state 4096 12096
    most_room =
        let m = Marked-fewer (Sound-Marked table journal head p ok.sound) (step_index head state) (omega (arith, ok.high)) in
        let few : words_to head state ≤ 4096 = omega (arith, m.inside, ok.range.journal_most) in
        record { changes_room = few; map_room = omega (arith, few, ok.sound.used_in, ok.range.table_most) }

    -- the map at the state is one, and of at most so many offers as table and journal have words
    pub map_most : length (map_here table journal head state) ≤ 12096
    map_most =
        let steps = compose_all (steps_between journal head head.checkpoint state) in
        omega (
          arith,
          apply-length (take head.used table) steps,
          used_long ok.sound,
          run_few p ok,
          most_room.map_room,
        )

    pub Map-kept : Map (map_here table journal head state)
    Map-kept =
        subst Map (sym (map_is table journal head ok.sound state ok.low ok.high))
        (at_map (decode (record { table = table; journal = journal; head = head })) (decoded_Good table journal head p ok.sound) state)

  -- where the steps to the state have no words, the table has that map already
  module _ (p : Shaped head) (e : words_to head state ≡ 0) where
    no_changes : compose_all (steps_between journal head head.checkpoint state) ≡ []
    no_changes = nothing_in (compose_all (steps_between journal head head.checkpoint state)) (omega (arith, run_few p ok, e))

    pub map_here_lem : map_here table journal head state ≡ take head.used table
    map_here_lem = ap (apply (take head.used table)) no_changes ∙ apply_zero (take head.used table) ok.sound.map

    pub size_here : head.used ≡ length (map_here table journal head state)
    size_here = sym (ap length map_here_lem ∙ used_long ok.sound)
