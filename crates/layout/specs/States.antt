-- The states of a store in memory: which steps lead from one to another, and the map at each.
-- Assumes nothing.
use Rattle.std.specs.Prelude.{List, ℕ, ◌-◌, take}
use Rattle.changes.specs.Calculus.{apply, compose_all}
use Rattle.changes.specs.Runs.{run_of}
use Rattle.layout.specs.declared.head.Head.{Head}

-- where the step that leads on from a state stands among the held steps
abbrev pub step_index : Head → ℕ → ℕ
step_index head state = state - head.oldest

-- how many steps are held: "A step leads from one state number to the next."
abbrev pub held_of : Head → ℕ
held_of head = step_index head head.tip

-- the steps that lead from a state to a later one
abbrev pub steps_between : List ℕ → Head → ℕ → ℕ → List (List ℕ)
steps_between journal head from to = run_of journal head.ends (step_index head from) (step_index head to - step_index head from)

-- "State number s is the book with the steps from the anchor to s applied"
abbrev pub map_here : List ℕ → List ℕ → Head → ℕ → List ℕ
map_here table journal head state = apply (take head.used table) (compose_all (steps_between journal head head.checkpoint state))
