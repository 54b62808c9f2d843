-- Condition 2, proved.
-- Assumes nothing.
use Rattle.answers.specs.declared.call.Format.TheVariants.{Image, Sheet}
use Rattle.moments.proofs.Theorem.{moments_follow, callers_follow, images_follow, batches_follow, since_follows, sheets_follow}
use Rattle.moments.proofs.Theorem.{depths_follow}
use Rattle.conditions.specs.Condition2.{Condition2}
use Rattle.conditions.proofs.Batches.{batches}
use Rattle.conditions.proofs.AsServed.{as_served}
use Rattle.conditions.proofs.CLayout.{c_layout}
use Rattle.conditions.proofs.Depths.{depths}
use Rattle.conditions.proofs.FlushToAnchor.{flush_to_the_anchor}
use Rattle.conditions.proofs.Laws.{laws}
use Rattle.conditions.proofs.Lookups.{lookups}
use Rattle.conditions.proofs.QueriesKeep.{query_keeps}
use Rattle.conditions.proofs.Restarts.{restarts}
use Rattle.conditions.proofs.Sheets.{sheets}
use Rattle.conditions.proofs.Tallies.{tallies}
use Rattle.conditions.proofs.Written.{written}

pub condition_2 : Condition2
condition_2 = record {
  laws = laws;
  tallies = tallies;
  batches = batches;
  images = written Image;
  sheets_written = written Sheet;
  sheets = sheets;
  restarts = restarts;
  lookups = lookups;
  depths = depths;
  flush_to_the_anchor = flush_to_the_anchor;
  queries_change_nothing = query_keeps;
  c_as_served = as_served;
  c_layout = c_layout;
  moments = moments_follow;
  desk_and_foyer = callers_follow;
  images_of_states = images_follow;
  batch_table = batches_follow;
  since_when = since_follows;
  sheets_of_states = sheets_follow;
  depth_table = depths_follow;
}
