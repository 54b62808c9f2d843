-- What a check finds, and what a call answers: each is turned away on a ground, or not.
-- Assumes nothing.
use Rattle.std.specs.Prelude.{Result}
use Rattle.answers.specs.declared.answer.Answer.{Answer}
use Rattle.answers.specs.declared.ground.Ground.{Ground}

-- no ground, or the first one that turns the call away
abbrev pub Check : Type 0
Check = Result (Unit {0}) Ground

-- what an accepted call answers, or the ground on which it is turned away
abbrev pub Answered : Type 0
Answered = Result Answer Ground
