-- The laws of changes, given again.
-- Assumes nothing.
use Rattle.changes.proofs.Laws as changes
use Rattle.conditions.specs.Laws.{Laws}

pub laws : Laws
laws = record {
  apply_puts = changes.apply_puts;
  apply_removes = changes.apply_removes;
  apply_leaves = changes.apply_leaves;
  remove_absent = changes.remove_absent;
  apply_map = changes.apply-Map;
  later_wins = changes.later_wins;
  compose_changes = changes.compose-Changes;
  compose_assoc = changes.compose_assoc;
  compose_zero_right = changes.compose_zero_right;
  compose_zero_left = changes.compose_zero_left;
  apply_twice = changes.apply_twice;
  run_apply = changes.run_apply;
  read_changed = changes.read_changed;
  over_twice = changes.over_twice;
  over_offers = changes.over_offers;
}
