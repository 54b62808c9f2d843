-- A view that memory can hold, with some of it set: what the new part has to meet so that memory can hold the view still.
-- Assumes nothing.
use mathlib.Core.Path.{◌≡◌}
use mathlib.Core.List.{List, ◌++◌}
use Prim.Native.Nat.{ℕ, ◌-◌, ◌≤◌}
use lib.ListN.{length}
use Rattle.changes.specs.Lists.{All}
use Rattle.views.specs.Laid.{Fits}
use Rattle.views.specs.View.{View, Slot, view_steps, view_old, view_slots, least_slot, NotAbove, Storable}

module _ {Stands : ℕ → ℕ → Type 0} (v : View) (g : Storable Stands v) where
  -- other steps that lead on from the checkpoint
  pub good_steps : (steps : List (List ℕ)) → Fits v.limits.journal (v.old ++ steps) → Storable Stands (view_steps v steps)
  good_steps steps held =
      record {
        map = g.map;
        room = g.room;
        held = held;
        eight = g.eight;
        below = g.below;
        since = g.since;
        floor = g.floor;
        deep = g.deep;
      }

  module _ {Next : ℕ → ℕ → Type 0} where
    -- other steps that lead up to it
    pub good_old : (old : List (List ℕ)) → Fits v.limits.journal (old ++ v.steps) → length old ≤ v.checkpoint
        → Next (v.checkpoint - length old) (least_slot v.checkpoint v.slots) → Storable Next (view_old v old)
    good_old old held since floor =
        record {
          map = g.map;
          room = g.room;
          held = held;
          eight = g.eight;
          below = g.below;
          since = since;
          floor = floor;
          deep = g.deep;
        }

    -- other slots
    pub good_slots : (slots : List Slot) → length slots ≡ 8 → All (NotAbove v.checkpoint) slots
        → Next (v.checkpoint - length v.old) (least_slot v.checkpoint slots) → Storable Next (view_slots v slots)
    good_slots slots eight below floor =
        record {
          map = g.map;
          room = g.room;
          held = g.held;
          eight = eight;
          below = below;
          since = g.since;
          floor = floor;
          deep = g.deep;
        }
