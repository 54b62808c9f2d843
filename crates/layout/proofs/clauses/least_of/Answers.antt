-- `clauses::least_of` meets its contract: of the least so far and the slots that are left the least is that of all.
-- Assumes nothing.
use mathlib.Core.Path.{◌∙◌, sym}
use mathlib.Core.Logic.{inl, inr}
use Rattle.layout.proofs.WordTests.{least_none}
use Rattle.layout.proofs.clauses.least_of.Goals as goal

pub returns : goal.returns
returns c =
    sym (least_none _ _ _ (elim c.in-None.ensures.steps [ inl e ↦ inl e.1.0 | inr e ↦ inr e.1.0 ])) ∙ c.loop-is_open.invariant
