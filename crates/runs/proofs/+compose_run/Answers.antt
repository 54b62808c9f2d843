-- `runs::compose_run` meets its contract: the halves of a run are composed, and the number of steps falls.
-- Assumes nothing.
use native.Mathlib.Omega.{arith}
use Rattle.runs.proofs.Halving.{compose_none, compose_single, left_of, right_room, right_of, both_room, Composed-halves}
use Rattle.runs.proofs.+compose_run.Goals as goal

pub returns-then-to-from : goal.returns-then-to-from
returns-then-to-from t c = compose_none c.requires c.if-to-from.true c.args.out.now c.args.spare.now

pub returns-then-to-from-2 : goal.returns-then-to-from-2
returns-then-to-from-2 t c =
    compose_single c.requires c.if-to-from-2.true c.args.out.now c.args.spare.now
    c.copy_step.new.out c.copy_step.result
    c.copy_step.ensures.0 c.copy_step.ensures.1

pub compose_run-right-requires : goal.compose_run-right-requires
compose_run-right-requires t c =
    let left = c.compose_run-left in
    let l = left_of left.ensures c.requires (omega arith) (omega arith) left.auto.spare left.auto.out in
    (omega (arith, c.decreases), right_room l)

pub compose-requires : goal.compose-requires
compose-requires t c =
    let left = c.compose_run-left in
    let right = c.compose_run-right in
    let l = left_of left.ensures c.requires (omega arith) (omega arith) left.auto.spare left.auto.out in
    both_room (right_of l right.ensures right.auto.spare right.auto.out)

pub returns : goal.returns
returns t c =
    let left = c.compose_run-left in
    let right = c.compose_run-right in
    let l = left_of left.ensures c.requires (omega arith) (omega arith) left.auto.spare left.auto.out in
    Composed-halves (right_of l right.ensures right.auto.spare right.auto.out) c.compose.new.out c.compose.result
    c.compose.ensures.0 c.compose.ensures.1
