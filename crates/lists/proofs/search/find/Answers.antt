-- `search::find` meets its contract: the word at the only position is the word found.
-- Assumes nothing.
use mathlib.Core.Path.{sym, ◌∙◌}
use native.Mathlib.Omega.{arith}
use Rattle.changes.proofs.Find.{found_at}
use Rattle.lists.proofs.Halving.{none_there, other_there, finds}
use Rattle.lists.proofs.search.find.Goals as goal

pub returns-then-words-at : goal.returns-then-words-at
returns-then-words-at c = let args = c.args in
    finds (sym (none_there args.words.now args.offer c.position-at.result c.position-at.ensures (omega arith)))

pub returns-then-offer_of-offer : goal.returns-then-offer_of-offer
returns-then-offer_of-offer c = let args = c.args in
    finds (sym (other_there args.words.now args.offer c.position-at.result c.position-at.ensures
    (λ e. c.if-offer_of-offer.true (c.offer_of.ensures ∙ e))))

pub returns : goal.returns
returns c = let args = c.args in
    finds (sym (found_at args.words.now c.requires c.position-at.result (omega arith) args.offer
    (sym c.offer_of.ensures ∙ c.if-offer_of-offer.false)))
