-- A flush on the encoding of a view is the encoding of the flushed view, trimmed; it is good, and at the checkpoint it is the view.
-- Assumes nothing.
use mathlib.Core.Path.{◌≡◌, ap, subst, ◌∙◌}
use mathlib.Core.List.{List, ◌++◌, map, append-nil}
use Prim.Native.Nat.{ℕ, ◌+◌, ◌-◌, ◌≤◌}
use native.Mathlib.Omega.{arith}
use lib.ListN.{length, take, drop, length-append, length-drop}
use Rattle.layout.specs.Heads.{with_steps, with_floor}
use Rattle.layout.specs.declared.head.Head.{Head}
use Rattle.views.specs.Laid.{laid_words, laid_marks, Fits}
use Rattle.views.specs.Trim.{trimmed}
use Rattle.views.specs.View.{Store, View, held_steps, tip_of, padded, least_slot, open_of, issued_of, encode, map_at, view_table, Good, Nearly}
use Rattle.views.proofs.SlotLists.{least_slots, least_later, below_later}
use Rattle.views.proofs.States.{at_checkpoint, at_map}
use Rattle.views.proofs.Trims.{trim_store, trim_leaves, trim_Good}
use Rattle.views.proofs.Views.{padded-length}
use Rattle.flushes.specs.Flush.{flushed_head}
use Rattle.step_views.specs.StepViews.{flushed_view}
use Rattle.step_views.proofs.RollViews.{split, steps_long}

-- a store whose table holds a map, which is the one at a state; its floor may lie too low
abbrev pub flushed_in : Store → ℕ → List ℕ → Store
flushed_in s state m = record { table = padded (length s.table) m; journal = s.journal; head = flushed_head s.head (length m) state }

module _ (h : Head) (v : View) (g : Good v) (state : ℕ) (low : v.checkpoint ≤ state) (high : state ≤ tip_of v)
    (fits : length (map_at v state) ≤ v.limits.table) where
  -- all held steps stay
  steps_same : held_steps v ≡ held_steps (flushed_view v state)
  unfolding flushed_view
  steps_same = split h v g state low high

  old_long : length (flushed_view v state).old ≡ length v.old + (state - v.checkpoint)
  unfolding flushed_view
  old_long = omega (arith, length-append v.old (take (state - v.checkpoint) v.steps), steps_long h v g state low high)

  flush_encoded : flushed_in (encode h v) state (map_at v state) ≡ encode h (flushed_view v state)
  unfolding encode flushed_view flushed_head
  flush_encoded i =
      let flushed = flushed_head (encode h v).head (length (map_at v state)) state in
      record {
        table = padded (padded-length v.limits.table v.base g.room i) (map_at v state);
        journal = laid_words v.limits.journal (steps_same i);
        head = with_steps (with_floor flushed (oldest-is i) flushed.ends) (tip-is i) (laid_marks (steps_same i));
      }
    where
      oldest-is : v.checkpoint - length v.old ≡ state - length (v.old ++ take (state - v.checkpoint) v.steps)
      oldest-is = omega (arith, old_long, g.since)

      tip-is : tip_of v ≡ state + length (drop (state - v.checkpoint) v.steps)
      tip-is = omega (arith, length-drop (state - v.checkpoint) v.steps)

  flushed_Nearly : Nearly (flushed_view v state)
  unfolding flushed_view
  flushed_Nearly =
      record {
        map = at_map v g state;
        room = fits;
        held = subst (Fits v.limits.journal) steps_same g.held;
        eight = g.eight;
        below = below_later v.checkpoint state v.slots low g.below;
        since = omega (arith, old_long, g.since);
        floor = omega (arith, old_long, g.since, g.floor, later);
        deep = g.deep;
      }
    where
      later : least_slot v.checkpoint v.slots ≤ least_slot state v.slots
      later =
          omega (
            arith,
            least_slots v.checkpoint v.slots,
            least_slots state v.slots,
            least_later v.checkpoint state (map open_of v.slots) (map issued_of v.slots) low,
          )

  -- the encoding of a view, flushed and trimmed, is the encoding of the view flushed and trimmed
  pub flush_trimmed : trim_store (flushed_in (encode h v) state (map_at v state)) ≡ encode h (trimmed (flushed_view v state))
  flush_trimmed = ap trim_store flush_encoded ∙ trim_leaves h (flushed_view v state) flushed_Nearly

  pub flush_Good : Good (trimmed (flushed_view v state))
  flush_Good = trim_Good h (flushed_view v state) flushed_Nearly

-- "A flush to the anchor changes nothing."
pub flush_nothing : (v : View) → Good v → trimmed (flushed_view v v.checkpoint) ≡ v
unfolding flushed_view trimmed
flush_nothing v g i = view_table v (at_checkpoint v g i) (old-is i) (steps-are i) v.checkpoint
  where
    none : v.checkpoint - v.checkpoint ≡ 0
    none = omega arith

    old-same : v.old ++ take (v.checkpoint - v.checkpoint) v.steps ≡ v.old
    old-same = ap (λ (n : ℕ). v.old ++ take n v.steps) none ∙ append-nil v.old

    gone : least_slot v.checkpoint v.slots - (v.checkpoint - length v.old) ≡ 0
    gone = omega (arith, g.floor)

    old-is : drop (least_slot v.checkpoint
        v.slots - (v.checkpoint - length (v.old ++ take (v.checkpoint - v.checkpoint) v.steps)))
        (v.old ++ take (v.checkpoint - v.checkpoint) v.steps) ≡ v.old
    old-is =
        ap (λ (l : List (List ℕ)). drop (least_slot v.checkpoint v.slots - (v.checkpoint - length l)) l) old-same
        ∙ ap (λ (n : ℕ). drop n v.old) gone

    steps-are : drop (v.checkpoint - v.checkpoint) v.steps ≡ v.steps
    steps-are = ap (λ (n : ℕ). drop n v.steps) none
