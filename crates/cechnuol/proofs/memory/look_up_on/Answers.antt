-- `memory::look_up_on` meets its contract: where the head is fit, it has what the lookup promises.
-- Assumes nothing.
use mathlib.Core.Path.{◌∙◌, sym}
use mathlib.Core.List.{[]}
use Rattle.answers.specs.declared.call.Query.TheVariants.{LookUp}
use Rattle.calls.specs.Lent.{lent, asks, check_of}
use Rattle.calls.specs.Meaning.{query_of}
use Rattle.calls.proofs.Settling.{kept, settles}
use Rattle.cechnuol.proofs.Serving.{was_asked}
use Rattle.cechnuol.proofs.memory.look_up_on.Goals as goal

pub returns : goal.returns
returns c = let args = c.args in
    let l = lent args.table.now args.journal.now [] [] c.unpack.result in
    let m = asks l (query_of l (LookUp args.asked)) in
    was_asked args.table.now args.journal.now [] [] args.head.now (LookUp args.asked)
    (sym c.is_head.ensures ∙ c.if-not-is_head.false) c.unpack.ensures
    (settles m l c.look_up.ensures (kept (check_of m) l.table) (kept (check_of m) l.journal) (kept (check_of m) l.words)
    (kept (check_of m) l.bytes) (kept (check_of m) l.head))
