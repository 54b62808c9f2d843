-- `clauses::slots_fit` meets its contract.
-- Assumes nothing.
use Rattle.std.proofs.Common.{◌∙◌, rules, refl, tests}
use Rattle.std.proofs.lemmas.Iterator.{YieldsList-from_range}
use Rattle.std.proofs.lemmas.Iterator.Search.{all_from_yields_List}
use Rattle.layout.specs.Clauses.{is_slot}
use Rattle.layout.proofs.Holds.{all_in_range}
use Rattle.layout.proofs.clauses.slots_fit.Goals as goal

pub returns : goal.returns
returns c =
    let test = is_slot c.args.checkpoint c.args.taken c.args.issued in
    all_from_yields_List test _ _ _ c.all.ensures.ran (YieldsList-from_range 0 8 8 refl refl) (λ x b q k. search (rules, tests))
    ∙ all_in_range test 8
