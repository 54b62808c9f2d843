-- `write_checkpoint` meets its contract.
-- Assumes nothing.
use borrow.Author.Rules.{rules}
use Rattle.restarts.proofs.Restarting.{checkpoint_written}
use Rattle.restarts.proofs.write_checkpoint.Goals as goal

pub returns : goal.returns
returns c =
    let a = c.args in
    checkpoint_written a.table.now a.journal.now a.head.now a.bytes.now c.write_state.new.bytes c.write_state.ensures.bytes
    c.write_state.result c.write_state.ensures.answer.0 (search rules)
