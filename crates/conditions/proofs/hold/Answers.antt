-- `hold` meets its contract: the three theorems.
-- Assumes nothing.
use Rattle.conditions.proofs.Condition1.{condition_1}
use Rattle.conditions.proofs.Condition2.{condition_2}
use Rattle.conditions.proofs.Condition3.{condition_3}
use Rattle.conditions.proofs.hold.Goals as goal

pub returns : goal.returns
returns c = (condition_1, condition_2, condition_3)
