-- Commit, on memory and head: "Commit appends a list as state tip + 1. An empty list counts."
-- "everything lent and the head keep their values" where a call is turned away.
-- Assumes nothing.
use Rattle.std.specs.Prelude.{not, List, [], ◌∷◌, ◌++◌, ℕ, ◌+◌, ◌-◌, ltb, eqb, length, take, drop, set}
use Rattle.changes.specs.Lists.{is_list}
use Rattle.changes.specs.Runs.{start_of}
use Rattle.answers.specs.Check.{Check}
use Rattle.answers.specs.declared.ground.Ground.TheVariants.{BadList, LastState, StepsFull, JournalFull}
use Rattle.answers.specs.First.{Test, met, first, if_passed}
use Rattle.layout.specs.declared.head.Head.{Head}
use Rattle.layout.specs.Heads.{with_steps}
use Rattle.soundness.specs.Checks.{store_grounds}
use Rattle.layout.specs.States.{held_of}

-- how many journal words the held steps take
abbrev pub used_of : Head → ℕ
used_of head = start_of head.ends (held_of head)

-- grounds 12 and 13: "The tip is 2^32 − 1 at a commit.", "64 steps are held at a commit."
abbrev pub step_grounds : Head → List Test
step_grounds head = met (eqb head.tip 4294967295) LastState ∷ met (eqb (held_of head) 64) StepsFull ∷ []

-- grounds 1, 2, 6, 12, 13, 14
abbrev pub commit_grounds : List ℕ → List ℕ → Head → List ℕ → List Test
commit_grounds table journal head list =
    store_grounds table journal head
    -- "A list breaks its rules"
    ++ (met (not (is_list list)) BadList ∷ step_grounds head
    -- "The commit's words exceed the unused change words."
    ++ (met (ltb (length journal - used_of head) (length list)) JournalFull ∷ []))

abbrev pub commit_check : List ℕ → List ℕ → Head → List ℕ → Check
commit_check table journal head list = first (commit_grounds table journal head list)

-- "A commit writes only the unused end of change memory."
abbrev pub with_list : List ℕ → ℕ → List ℕ → List ℕ
with_list journal used list = take used journal ++ list ++ drop (used + length list) journal

-- "A mark is the count of change words through the end of its step": the head with one more step, which ends there
unfoldable pub with_step : Head → ℕ → ℕ → Head
with_step head held end = with_steps head (head.tip + 1) (set head.ends held end)

abbrev pub commit_journal : List ℕ → List ℕ → Head → List ℕ → List ℕ
commit_journal table journal head list = if_passed (commit_check table journal head list) (with_list journal (used_of head) list) journal

abbrev pub commit_head : List ℕ → List ℕ → Head → List ℕ → Head
commit_head table journal head list =
    if_passed (commit_check table journal head list) (with_step head (held_of head) (used_of head + length list)) head
