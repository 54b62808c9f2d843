-- `rules::sixteen_follow` meets its contract: the flags of four stretches join to that of the whole.
-- Assumes nothing.
use Rattle.lists.proofs.Pairs.{says_four}
use Rattle.lists.proofs.rules.sixteen_follow.Goals as goal

pub returns : goal.returns
returns g c =
    says_four g.R.Rule.passes c.args.words.now c.args.from 4 c.four_follow.result c.four_follow-2.result c.four_follow-3.result
    c.four_follow-4.result c.four_follow.ensures c.four_follow-2.ensures c.four_follow-3.ensures c.four_follow-4.ensures
