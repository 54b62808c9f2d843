-- `Entry::put` meets its contract.
-- Assumes nothing.
use Rattle.std.proofs.Common.{◌%◌, ◌^◌, arith}
use Rattle.entry.proofs.Joined.{put_joined}
use Rattle.entry.proofs.Entry.put.Goals as goal

pub returns : goal.returns
returns c = put_joined c.none.result (c.args.offer % 2 ^ 31) c.args.price c.none.ensures (omega arith) (omega arith)
