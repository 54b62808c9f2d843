-- `checking::all_allowed` meets its contract.
-- Assumes nothing.
use Rattle.std.proofs.Common.{rules}
use Rattle.std.proofs.lemmas.List.Recursion.{and_is}
use Rattle.orders.specs.Orders.{is_allowed}
use Rattle.execution.specs.Tests.{list_all}
use Rattle.execution.proofs.AllOrders.{all_none, all_one}
use Rattle.batch.proofs.checking.all_allowed.Goals as goal

pub returns : goal.returns
returns c =
    and_is (list_all is_allowed) is_allowed (all_none is_allowed) (all_one is_allowed) c.args.orders.now 0 _
    (search rules) (search rules)
