-- A state that a store holds: one "for anchor ≤ s ≤ tip" of a sound store whose lengths are in their ranges.
-- Assumes nothing.
use Rattle.std.specs.Prelude.{◌≡◌, true, List, ℕ, ◌+◌, ◌≤◌, length}
use Rattle.changes.specs.Runs.{run_words}
use Rattle.layout.specs.declared.head.Head.{Head}
use Rattle.layout.specs.Clauses.{are_lengths}
use Rattle.soundness.specs.Sound.{is_sound}
use Rattle.layout.specs.States.{step_index}

pub record HeldState (table journal : List ℕ) (head : Head) (state : ℕ) : Type 0 where
  pub lengths : are_lengths (length table) (length journal) ≡ true
  pub sound : is_sound table journal head ≡ true
  pub low : head.checkpoint ≤ state
  pub high : state ≤ head.tip

-- how many words the steps from the checkpoint to a state have
abbrev pub words_to : Head → ℕ → ℕ
words_to head state = run_words head.ends (step_index head head.checkpoint) (step_index head state)

-- a buffer with room for these words, and one with room for the table's words and these
pub record MapRoom (head : Head) (state changes map : ℕ) : Type 0 where
  pub changes_room : words_to head state ≤ changes
  pub map_room : head.used + words_to head state ≤ map
