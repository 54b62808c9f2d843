-- `rules::four_follow` meets its contract: the flags of four pairs join to that of their stretch.
-- Assumes nothing.
use Rattle.lists.proofs.Pairs.{says_pairs}
use Rattle.lists.proofs.rules.four_follow.Goals as goal

pub returns : goal.returns
returns g c =
    says_pairs g.R.Rule.passes c.args.words.now c.args.from c.follows.result c.follows-2.result c.follows-3.result c.follows-4.result
    c.follows.ensures c.follows-2.ensures c.follows-3.ensures c.follows-4.ensures
