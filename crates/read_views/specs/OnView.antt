-- The calls on views: what a view becomes.
-- Assumes nothing.
use Rattle.std.specs.Prelude.{List, ℕ, ◌-◌, length, set, take, drop}
use Rattle.views.specs.View.{View, view_slots, Slot, held_steps}

-- a view with one slot set
unfoldable pub with_slot : View → ℕ → Slot → View
with_slot v k s = view_slots v (set v.slots k s)

-- the held steps that lead from a state to a later one, also below the checkpoint
unfoldable pub between : View → ℕ → ℕ → List (List ℕ)
between v from to = take (to - from) (drop (from - (v.checkpoint - length v.old)) (held_steps v))
