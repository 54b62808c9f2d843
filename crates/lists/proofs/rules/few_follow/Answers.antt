-- `rules::few_follow` meets its contract: the flags joined so far say whether all those pairs pass.
-- Assumes nothing.
use Rattle.std.proofs.Common.{arith, sym, ap}
use Rattle.entry.specs.Word.{bit_of}
use Rattle.lists.proofs.Pairs.{pairs_none, says_more}
use Rattle.lists.proofs.rules.few_follow.Goals as goal

pub loop-i-init : goal.loop-i-init
loop-i-init g c = (omega arith, λ p. sym (ap bit_of (pairs_none g.R.Rule.passes c.args.words.now 0)))

pub loop-i-preserved : goal.loop-i-preserved
loop-i-preserved g c = (
  omega arith,
  says_more g.R.Rule.passes c.args.words.now c.loop-i.i c.loop-i.good c.follows-good.result (omega arith)
      c.loop-i.invariant.1 c.follows-good.ensures,
)
