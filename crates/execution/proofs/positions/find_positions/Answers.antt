-- `positions::find_positions` meets its contract. The loop's invariant: the orders so far are in the read set, at the positions
-- noted for them.
-- Assumes nothing.
use mathlib.Core.Path.{sym, ◌∙◌, ap}
use native.Mathlib.Omega.{arith}
use borrow.Author.Tests.{ltb-false}
use Rattle.std.specs.Option.{is_some}
use Rattle.entry.specs.Word.{offer_of}
use Rattle.lists.proofs.Halving.{none_there, other_there}
use Rattle.execution.proofs.OrderPositions.{finding_end, finding_stops, Finding-goes, not_found}
use Rattle.execution.proofs.positions.find_positions.Goals as goal

pub returns-in_default : goal.returns-in_default
returns-in_default c = (
  finding_stops c.args.reads.now c.args.orders.now c.loop-k.k _ (omega arith) c.offer_of-offer.ensures
      (other_there _ _ c.position-at.result c.position-at.ensures
      (λ e. c.if-offer_of-offer.false (c.offer_of.ensures ∙ ap offer_of (c.in-Some.ensures.lookup.3.1 0) ∙ e))),
  not_found,
)

pub returns-in_default-2 : goal.returns-in_default-2
returns-in_default-2 c = (
  finding_stops c.args.reads.now c.args.orders.now c.loop-k.k _ (omega arith) c.offer_of-offer.ensures
      (none_there _ _ c.position-at.result c.position-at.ensures
      (ltb-false _ _ (sym c.get.ensures.lookup.0 ∙ ap is_some c.in_default.is))),
  not_found,
)

pub loop-k-preserved : goal.loop-k-preserved
loop-k-preserved c = Finding-goes c.loop-k.invariant (omega arith) c.offer_of-offer.ensures c.requires.1 _
    c.in-Some.ensures.lookup.3.0
    (ap offer_of (sym (c.in-Some.ensures.lookup.3.1 0)) ∙ sym c.offer_of.ensures ∙ c.if-offer_of-offer.true)

pub returns : goal.returns
returns c = let all = finding_end c.loop-k.invariant c.requires.0 (omega arith) in (all.0, λ e. all.1)
