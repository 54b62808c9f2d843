-- A state as the calls leave it, put into bytes that have room or have none, and written by its grounds.
-- Assumes nothing.
use mathlib.Core.Path.{◌≡◌, refl, sym, ap, ◌∙◌}
use mathlib.Core.List.{List, [], ◌++◌}
use Prim.Native.Nat.{ℕ, ◌≤◌, ◌<◌}
use native.Mathlib.Decide.{dec_lt}
use native.Mathlib.Omega.{arith}
use borrow.Author.Tests.{lt-ltb, le-ltb}
use lib.ListN.{length}
use Rattle.answers.specs.Check.{Check, Answered}
use Rattle.std.proofs.Common.{Result, Ok, Err}
use Rattle.answers.specs.declared.answer.Answer.TheVariants.{Count}
use Rattle.answers.specs.declared.call.Format.{Format}
use Rattle.answers.specs.declared.ground.Ground.{Ground}
use Rattle.answers.specs.Answers.{Gives}
use Rattle.answers.specs.First.{first}
use Rattle.answers.proofs.Firsts.{first-met, first_not, none_met, first_stops, first_past}
use Rattle.answers.proofs.Firsts.{gives, Gives-refused, Gives-passed, if_refused, if_passed_lem}
use Rattle.formats.proofs.Putting.{Puts, put_short, put_done}
use Rattle.layout.specs.declared.head.Head.{Head}
use Rattle.layout.specs.States.{map_here}
use Rattle.soundness.specs.Checks.{store_grounds, state_grounds}
use Rattle.soundness.proofs.Passed.{store_passed}
use Rattle.soundness.specs.Facts.{Sound}
use Rattle.state_maps.specs.Held.{HeldState}
use Rattle.state_maps.proofs.MapSizes.{past_held}
use Rattle.exports.specs.Export.{state_bytes, state_size, state_over, room_grounds, write_check, answer_of, write_answer, write_bytes}
use Rattle.exports.specs.Export.{own_check}

module _ (format : Format) (table journal : List ℕ) (head : Head) (state : ℕ) (out : List ℕ) where
  -- the answer and the bytes that are meant where the image of a state is written
  abbrev pub Writes : Answered → List ℕ → Type 0
  Writes answer left =
      Gives answer (write_answer format table journal head state (length out)) × (left ≡ write_bytes format table journal head state out)

  -- a ground is met, or none is
  turned_away : {g : Ground} → write_check format table journal head state (length out) ≡ Err g → Writes (Err g) out
  turned_away e = (Gives-refused e _, if_refused e _ _)

  written : write_check format table journal head state (length out) ≡ (Ok tt)
      → Writes (Ok (Count (state_size format table journal head state))) (state_over format table journal head state out)
  written e = (Gives-passed e refl, if_passed_lem e _ _ refl)

  -- the check of the store and the state finds a ground
  pub held_not : {check : Check} → check ≡ first (store_grounds table journal head ++ state_grounds head state)
      → {g : Ground} → check ≡ Err g → Writes (Err g) out
  held_not e d = turned_away (first_stops (store_grounds table journal head ++ state_grounds head state) _ (sym e ∙ d))

  -- or it finds none: of a state that the store holds the room alone is tested, and the image of its map is put into the bytes
  module _ (h : HeldState table journal head state) where
    pub but_room : (room : ℕ) → write_check format table journal head state room ≡ first (room_grounds format table journal head state room)
    but_room room = past_held h _

    pub held_passes : (room : ℕ) → state_size format table journal head state ≤ room
        → write_check format table journal head state room ≡ (Ok tt)
    held_passes room l = but_room room ∙ first_not _ _ _ (le-ltb room (state_size format table journal head state) l) ∙ none_met

    pub held_writes : {answer : Result ℕ Ground} {left : List ℕ} → Puts format state (map_here table journal head state) out answer left
        → Writes (answer_of answer) left
    unfolding state_bytes state_size
    held_writes {answer} {left} p = go (dec_lt (length out) (state_size format table journal head state))
      where
        go : Dec (length out < state_size format table journal head state) → Writes (answer_of answer) left
        go (yes l) =
            let short = put_short format state (map_here table journal head state) out l in
            let t = turned_away
            (but_room (length out) ∙ first-met _ _ _ (lt-ltb (length out) (state_size format table journal head state) l)) in
            (gives (ap answer_of (p.0 ∙ sym short.0) ∙ t.0.0), p.1 ∙ sym short.1 ∙ t.1)
        go (no l) =
            let fits : state_size format table journal head state ≤ length out = omega arith in
            let done = put_done format state (map_here table journal head state) out fits refl refl in
            let t = written (held_passes (length out) fits) in
            (gives (ap answer_of (p.0 ∙ sym done.0) ∙ t.0.0), p.1 ∙ sym done.1 ∙ t.1)

-- A state that a sound store keeps: 11 is not met, whether it concerns the call or not.
module _ (format : Format) (table journal : List ℕ) (head : Head) (state : ℕ)
    (kept : Sound table journal head → (head.checkpoint ≤ state) × (state ≤ head.tip)) where
  pub own_check_lem : (room : ℕ) → write_check format table journal head state room ≡ own_check format table journal head state room
  own_check_lem room = by (first (store_grounds table journal head)) refl
    where
      by : (c : Check) → first (store_grounds table journal head) ≡ c
          → write_check format table journal head state room ≡ own_check format table journal head state room
      by (Ok tt) e =
          let k = kept (store_passed table journal head [] e).0.sound in
          first_past (store_grounds table journal head) _ e
          ∙ first_not _ _ _ (le-ltb state head.checkpoint k.0)
          ∙ first_not _ _ _ (le-ltb head.tip state k.1)
          ∙ sym (first_past (store_grounds table journal head) _ e)
      by (Err g) e = first_stops (store_grounds table journal head) _ e ∙ sym (first_stops (store_grounds table journal head) _ e)

-- the tip's image
pub tip_check : (format : Format) (table journal : List ℕ) (head : Head) (room : ℕ)
    → write_check format table journal head head.tip room ≡ own_check format table journal head head.tip room
tip_check format table journal head room = own_check_lem format table journal head head.tip (λ s. (s.high, omega arith)) room
