-- `streams::list` meets its contract: what is written is the listing of all that the reader had.
-- Assumes nothing.
use Rattle.std.proofs.Common.{length-take-le}
use Rattle.listing.proofs.Streamed.{listed, rendered_text}
use Rattle.listing.proofs.streams.list.Goals as goal

pub returns-clause-writes : goal.returns-clause-writes
returns-clause-writes g c =
    let read = c.read_full-got.ensures in
    listed _ _ _ _ _ _ _ (length-take-le c.read_full-got.result.0 c.read_full-got.new.bytes read.bound) c.read_full-got.auto.bytes
    read.read read.end (rendered_text c.report-end.ensures.0) c.in_ok-write_all.ensures.bytes
