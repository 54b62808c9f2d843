-- `map_at` meets its contract.
-- Assumes nothing.
use native.Mathlib.Omega.{arith}
use Rattle.views.specs.View.{Shaped}
use Rattle.state_maps.proofs.Working.{state_facts, used_long, run_room, has_room, size_is}
use Rattle.state_maps.proofs.Working.{map_is, changes_stay, map_stays}
use borrow.Author.Rules.{rules}
use Rattle.state_maps.proofs.map_at.Goals as goal

pub step_index-from-requires : goal.step_index-from-requires
step_index-from-requires c = omega (arith, (state_facts c.requires.0).sound.low)

pub step_index-to-requires : goal.step_index-to-requires
step_index-to-requires c = let ok = state_facts c.requires.0 in omega (arith, ok.sound.low, ok.low)

pub compose_run-count-requires : goal.compose_run-count-requires
compose_run-count-requires c =
    run_room ((record { taken_8 = search rules; issued_8 = search rules; ends_64 = search rules })) (state_facts c.requires.0)
    c.step_index-from.ensures
    c.step_index-to.ensures c.requires.1

pub slice_bounds-apply-end : goal.slice_bounds-apply-end
slice_bounds-apply-end c =
    used_long ((record { taken_8 = search rules; issued_8 = search rules; ends_64 = search rules })) (state_facts c.requires.0)

pub apply-requires : goal.apply-requires
apply-requires c = let ok = state_facts c.requires.0 in (
  ok.sound.map.puts,
  has_room ((record { taken_8 = search rules; issued_8 = search rules; ends_64 = search rules })) ok c.step_index-from.ensures
      c.step_index-to.ensures
      c.compose_run-count.ensures c.requires.1
      (search rules),
)

pub returns : goal.returns
returns c = let ok = state_facts c.requires.0 in
    let p : Shaped c.args.head = record { taken_8 = search rules; issued_8 = search rules; ends_64 = search rules } in
    let from = c.step_index-from.ensures in
    let to = c.step_index-to.ensures in
    let run = c.compose_run-count.ensures in
    let size = c.apply.ensures.0 in
    let map = c.apply.ensures.1 in (
      size_is p ok from to run _ _ size map,
      map_is p ok from to run _ _ size map,
      changes_stay p ok from to run,
      map_stays p ok from to run _ _ size map,
    )
