-- Writing a state as an image or a sheet, on memory and head (document 02, Q-2): "Writing an image may now name any state from anchor to
-- tip. With no state named, the tip is now written instead of the anchor."; and Q-5, of sheets: "Reader and writer are both wanted, for
-- the same states as images; bytes past a written sheet are unchanged." "everything lent and the head keep their values" where a call is
-- turned away.
-- Assumes nothing.
use Rattle.std.specs.Prelude.{List, [], ◌∷◌, ◌++◌, ℕ, ltb, length, drop, Result, Ok, Err}
use Rattle.answers.specs.Check.{Answered}
use Rattle.answers.specs.declared.answer.Answer.TheVariants.{Count}
use Rattle.answers.specs.Check.{Check}
use Rattle.answers.specs.declared.call.Format.{Format}
use Rattle.answers.specs.declared.ground.Ground.{Ground}
use Rattle.answers.specs.declared.ground.Ground.TheVariants.{OutputShort}
use Rattle.answers.specs.Answers.{answered}
use Rattle.answers.specs.First.{Test, met, first, if_passed}
use Rattle.formats.specs.Formats.{bytes_for, size_for}
use Rattle.layout.specs.declared.head.Head.{Head}
use Rattle.layout.specs.States.{map_here}
use Rattle.soundness.specs.Checks.{store_grounds, state_grounds}

-- "An image that names a state loads as that state's map.": the bytes of a state are those of its number and its map
unfoldable pub state_bytes : Format → List ℕ → List ℕ → Head → ℕ → List ℕ
state_bytes format table journal head state = bytes_for format state (map_here table journal head state)

-- how many bytes they are
unfoldable pub state_size : Format → List ℕ → List ℕ → Head → ℕ → ℕ
state_size format table journal head state = size_for format (map_here table journal head state)

-- ground 17: "Output is shorter than what is to be written."
abbrev pub room_grounds : Format → List ℕ → List ℕ → Head → ℕ → ℕ → List Test
room_grounds format table journal head state room = met (ltb room (state_size format table journal head state)) OutputShort ∷ []

-- grounds 1, 2, 11, 17 where a state is named; 16 is none of them: "A state may hold more offers than the book; its image is still written"
abbrev pub write_grounds : Format → List ℕ → List ℕ → Head → ℕ → ℕ → List Test
write_grounds format table journal head state room =
    store_grounds table journal head ++ state_grounds head state ++ room_grounds format table journal head state room

abbrev pub write_check : Format → List ℕ → List ℕ → Head → ℕ → ℕ → Check
write_check format table journal head state room = first (write_grounds format table journal head state room)

-- the answer that a count of bytes written, or a ground, stands for
abbrev pub answer_of : Result ℕ Ground → Answered
answer_of (Ok count) = Ok (Count count)
answer_of (Err reason) = Err reason

-- the count of the bytes written, or the ground
abbrev pub write_answer : Format → List ℕ → List ℕ → Head → ℕ → ℕ → Answered
write_answer format table journal head state room =
    answered (write_check format table journal head state room) (Ok (Count (state_size format table journal head state)))

-- "bytes past it are unchanged"
abbrev pub state_over : Format → List ℕ → List ℕ → Head → ℕ → List ℕ → List ℕ
state_over format table journal head state out =
    state_bytes format table journal head state ++ drop (state_size format table journal head state) out

abbrev pub write_bytes : Format → List ℕ → List ℕ → Head → ℕ → List ℕ → List ℕ
write_bytes format table journal head state out =
    if_passed (write_check format table journal head state (length out)) (state_over format table journal head state out) out

-- Grounds 1, 2, 17 where the caller names none: with no state named the tip is meant, and at a restart the checkpoint. 11, "The state
-- named is below the anchor or above the tip.", does not concern them.
abbrev pub own_grounds : Format → List ℕ → List ℕ → Head → ℕ → ℕ → List Test
own_grounds format table journal head state room = store_grounds table journal head ++ room_grounds format table journal head state room

abbrev pub own_check : Format → List ℕ → List ℕ → Head → ℕ → ℕ → Check
own_check format table journal head state room = first (own_grounds format table journal head state room)

-- "With no state named, the tip is now written instead of the anchor."
abbrev pub tip_answer : Format → List ℕ → List ℕ → Head → ℕ → Answered
tip_answer format table journal head room =
    answered (own_check format table journal head head.tip room) (Ok (Count (state_size format table journal head head.tip)))

abbrev pub tip_bytes : Format → List ℕ → List ℕ → Head → List ℕ → List ℕ
tip_bytes format table journal head out =
    if_passed (own_check format table journal head head.tip (length out)) (state_over format table journal head head.tip out) out
