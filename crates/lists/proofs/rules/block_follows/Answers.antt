-- `rules::block_follows` meets its contract: the flags of two stretches join to that of the whole.
-- Assumes nothing.
use Rattle.std.proofs.Common.{◌≡◌, ◌+◌, arith, bit_and, subst}
use Rattle.lists.specs.Pairs.{Says}
use Rattle.lists.proofs.Pairs.{says_both}
use Rattle.lists.proofs.rules.block_follows.Goals as goal

pub returns : goal.returns
returns g c =
    let whole : 16 + 16 ≡ g.row.BLOCK = omega arith in
    let flag = bit_and c.sixteen_follow-good.result c.sixteen_follow.result in
    subst (λ n. Says g.R.Rule.passes c.args.words.now c.args.from n flag) whole
    (says_both g.R.Rule.passes c.args.words.now c.args.from 16 16 c.sixteen_follow-good.result c.sixteen_follow.result
    c.sixteen_follow-good.ensures c.sixteen_follow.ensures)
