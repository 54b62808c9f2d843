-- `rules::few_follow` meets its contract: the flags joined so far say whether all those pairs pass.
-- Assumes nothing.
use Rattle.std.proofs.Common.{◌≡◌, true, ◌-◌, ◌≤◌, length, get_or}
use Rattle.entry.specs.Word.{bit_of, top_of}
use Rattle.lists.specs.Pairs.{are_pairs}
use Rattle.lists.proofs.rules.few_follow.Given as goal

abbrev pub invariant-loop-i : goal.invariant-loop-i
invariant-loop-i g l =
    (l.i ≤ length l.words)
    × (g.R.Rule.passes (get_or l.words 0 0) ≡ true → top_of l.good ≡ bit_of (are_pairs g.R.Rule.passes l.words 0 (l.i - 1)))
