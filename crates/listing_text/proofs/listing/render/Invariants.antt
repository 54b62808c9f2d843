-- `listing::render` has put the first line and those of the words so far.
-- Assumes nothing.
use Rattle.std.proofs.Common.{◌+◌, ◌*◌, ◌≤◌, take}
use Rattle.listing_text.specs.Listing.{lines_of}
use Rattle.listing_text.specs.Stored.{Puts}
use Rattle.listing_text.proofs.listing.render.Given as goal

abbrev pub invariant-loop-word : goal.invariant-loop-word
invariant-loop-word l =
    (l.text.end ≤ l.initial.text.end + 22 * l.word-index) × Puts l.initial.text (lines_of (take l.word-index l.words)) l.text
