-- Rollback, on memory and head: "Rollback to s makes s the tip and zeroes the words above."
-- "everything lent and the head keep their values" where a call is turned away.
-- Assumes nothing.
use Rattle.std.specs.Prelude.{List, ◌++◌, ℕ, ◌-◌, length, take, replicate}
use Rattle.changes.specs.Runs.{start_of}
use Rattle.answers.specs.Check.{Check}
use Rattle.answers.specs.First.{Test, first, if_passed}
use Rattle.layout.specs.declared.head.Head.{Head}
use Rattle.layout.specs.Heads.{with_steps}
use Rattle.soundness.specs.Checks.{store_grounds, state_grounds}
use Rattle.layout.specs.States.{step_index}

-- grounds 1, 2, 11
abbrev pub roll_grounds : List ℕ → List ℕ → Head → ℕ → List Test
roll_grounds table journal head state = store_grounds table journal head ++ state_grounds head state

abbrev pub roll_check : List ℕ → List ℕ → Head → ℕ → Check
roll_check table journal head state = first (roll_grounds table journal head state)

-- how many of the held steps lead to states up to this one
abbrev pub kept_of : Head → ℕ → ℕ
kept_of = step_index

-- "zeroes the words above"
abbrev pub cut_at : List ℕ → ℕ → List ℕ
cut_at journal end = take end journal ++ replicate (length journal - end) 0

-- "makes s the tip", "marks not in use are 0": the head whose tip is the state, up to which so many steps are kept
unfoldable pub cut_to : Head → ℕ → ℕ → Head
cut_to head kept state = with_steps head state (take kept head.ends ++ replicate (64 - kept) 0)

abbrev pub roll_journal : List ℕ → List ℕ → Head → ℕ → List ℕ
roll_journal table journal head state =
    if_passed (roll_check table journal head state) (cut_at journal (start_of head.ends (kept_of head state))) journal

abbrev pub roll_head : List ℕ → List ℕ → Head → ℕ → Head
roll_head table journal head state = if_passed (roll_check table journal head state) (cut_to head (kept_of head state) state) head
