-- `listing::render_refusal` meets its contract: the pieces of the line are put one behind another.
-- Assumes nothing.
use Rattle.std.proofs.Common.{◌∙◌, rules}
use Rattle.listing_text.specs.Listing.{refusal_text}
use Rattle.listing_text.proofs.Pieces.{both, whole}
use Rattle.listing_text.proofs.listing.render_refusal.Goals as goal

pub returns : goal.returns
unfolding refusal_text
returns c =
    let line = both (both c.put_text.ensures c.put_decimal.ensures) c.put_text-2.ensures in
    let w = whole c.new-text.ensures.end c.new-text.ensures.bytes line in
    (c.end.ensures ∙ w.0, search (rules, c.end.ensures, w.1, line.lent))
