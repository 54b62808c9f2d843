-- `composing::compose` meets its contract: what is written so far and the composition of what is left make the composition.
-- Assumes nothing.
use Rattle.composing.proofs.Composing.{iteration, left_earlier, left_later}
use Rattle.words.proofs.Writing.{copied_size, copied}
use Rattle.composing.proofs.compose.Goals as goal

pub returns-then-earlier-i : goal.returns-then-earlier-i
returns-then-earlier-i c = let args = c.args in
    let rest = left_later c.loop-j.invariant c.if-earlier-i.true in (
      copied_size c.loop-j.invariant.writing args.later.now c.loop-j.j rest,
      copied c.loop-j.invariant.writing
          args.later.now c.loop-j.j rest c.copy.new.target c.copy.ensures,
    )

pub loop-j-preserved : goal.loop-j-preserved
loop-j-preserved c = iteration c.loop-j.invariant c.if-earlier-i.false c.loop-j-test.true c.next_word.result
    c.past-i.result c.past-j.result c.next_word.ensures c.past-i.ensures c.past-j.ensures

pub returns : goal.returns
returns c = let args = c.args in
    let rest = left_earlier c.loop-j.invariant c.loop-j-test.false in (
      copied_size c.loop-j.invariant.writing args.earlier.now c.loop-j.i rest,
      copied c.loop-j.invariant.writing
          args.earlier.now c.loop-j.i rest c.copy-2.new.target c.copy-2.ensures,
    )
