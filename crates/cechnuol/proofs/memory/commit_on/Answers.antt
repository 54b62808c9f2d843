-- `memory::commit_on` meets its contract.
-- Assumes nothing.
use mathlib.Core.Path.{◌∙◌, sym}
use mathlib.Core.List.{[]}
use Rattle.lent.specs.Asked.{commit}
use Rattle.cechnuol.proofs.Serving.{not_served}
use Rattle.cechnuol.proofs.memory.commit_on.Goals as goal

pub returns-then-not-is_head : goal.returns-then-not-is_head
returns-then-not-is_head c = let args = c.args in
    not_served args.table.now args.journal.now args.list.now [] args.head.now args.tally.now commit
    (sym (c.is_head.ensures) ∙ c.if-not-is_head.true) (c.unfit_answer.ensures)
