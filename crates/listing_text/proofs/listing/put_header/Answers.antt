-- `listing::put_header` meets its contract: the pieces of the line are put one behind another.
-- Assumes nothing.
use Rattle.listing_text.specs.Listing.{header_of}
use Rattle.listing_text.proofs.Pieces.{both}
use Rattle.listing_text.proofs.listing.put_header.Goals as goal

pub returns : goal.returns
unfolding header_of
returns c =
    both (both (both (both c.put_text.ensures c.put_decimal.ensures) c.put_text-2.ensures) c.put_decimal-2.ensures) c.put_text-3.ensures
