-- `read::read` meets its contract: a forward leaves what its own contract promises.
-- Assumes nothing.
use Rattle.answers.specs.declared.call.Read.TheVariants.{Forward}
use Rattle.calls.specs.Lent.{lent, check_of}
use Rattle.calls.specs.Meaning.{read_call_of}
use Rattle.calls.proofs.Settling.{kept, settles, done_by}
use Rattle.calls.proofs.read.read.Goals as goal

pub returns-in-Forward : goal.returns-in-Forward
returns-in-Forward c = let args = c.args in
    let l = lent args.table.now args.journal.now args.words.now args.bytes.now args.head.now in
    let m = read_call_of l (Forward c.in-Forward.reader c.in-Forward.state) in
    rw c.in-Forward.is
    (settles m l (done_by c.done-in-Forward.ensures c.forward.ensures.answer) (kept (check_of m) l.table) c.forward.ensures.journal
    c.forward.ensures.reads (kept (check_of m) l.bytes) c.forward.ensures.head)
