-- `pricing::price` meets its contract: the memory of an execution has as many places as the read set, and no word is made.
-- Assumes nothing.
use Rattle.std.proofs.Common.{None}
use Rattle.std.proofs.lemmas.List.{take-replicate}
use Rattle.batch.proofs.pricing.price.Goals as goal

pub execute-requires : goal.execute-requires
execute-requires c = let batch = c.in_ok-check_batch.ensures.passed in record {
  rises = batch.rises;
  enough = batch.enough;
  located = batch.located;
  none_made = take-replicate _ 64 None batch.short;
}
