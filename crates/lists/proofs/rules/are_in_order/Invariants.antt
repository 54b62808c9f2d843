-- `rules::are_in_order` meets its contract: the pairs before the next block pass.
-- Assumes nothing.
use Rattle.std.proofs.Common.{◌≡◌, ◌+◌, ◌-◌, length, get_or, true, min}
use Rattle.lists.specs.Pairs.{are_pairs}
use Rattle.lists.proofs.rules.are_in_order.Given as goal

abbrev pub invariant-loop-start : goal.invariant-loop-start
invariant-loop-start g l = record {
  words : l.last + 1 + g.row.BLOCK ≡ length l.words;
  first : g.R.Rule.passes (get_or l.words 0 0) ≡ true;
  passed : are_pairs g.R.Rule.passes l.words 0 (min l.start (length l.words - 1)) ≡ true;
}
