-- `listing::put_line` meets its contract: the pieces of the line are put one behind another.
-- Assumes nothing.
use Rattle.listing_text.specs.Listing.{line_of}
use Rattle.listing_text.proofs.Pieces.{both}
use Rattle.listing_text.proofs.listing.put_line.Goals as goal

pub returns : goal.returns
unfolding line_of
returns c =
    rw (← c.offer_of.ensures, ← c.price_of.ensures)
    (both (both (both c.put_decimal.ensures c.put_text.ensures) c.put_decimal-2.ensures) c.put_text-2.ensures)
