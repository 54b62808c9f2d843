-- Commit, rollback and flush on the view of a store.
-- Assumes nothing.
use Rattle.std.specs.Prelude.{List, [], ◌∷◌, ◌++◌, ℕ, ◌-◌, take, drop}
use Rattle.views.specs.View.{View, view_steps, view_table, map_at}

-- "Commit appends a list as state tip + 1."
unfoldable pub commit_view : View → List ℕ → View
commit_view v list = view_steps v (v.steps ++ (list ∷ []))

-- "Rollback to s makes s the tip": the steps up to the state stay
unfoldable pub roll_view : View → ℕ → View
roll_view v state = view_steps v (take (state - v.checkpoint) v.steps)

-- "Flush to s makes the book the map at s, and s the anchor": the steps up to it become old ones, until the view is trimmed
unfoldable pub flushed_view : View → ℕ → View
flushed_view v state =
    view_table v
    (map_at v state)
    (v.old ++ take (state - v.checkpoint) v.steps)
    (drop (state - v.checkpoint) v.steps)
    state
