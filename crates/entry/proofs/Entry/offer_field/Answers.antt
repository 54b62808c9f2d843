-- `Entry::offer_field` meets its contract: the mask takes the offer in its place.
-- Assumes nothing.
use Rattle.entry.proofs.Flags.{offer_field}
use Rattle.entry.proofs.Entry.offer_field.Goals as goal

pub returns : goal.returns
returns c = offer_field c.args.word
