-- `flush` meets its contract.
-- Assumes nothing.
use Rattle.std.proofs.Common.{rules, sym, ◌∙◌}
use Rattle.views.specs.View.{Shaped}
use Rattle.flushes.specs.Flush.{flushed_head}
use Rattle.flushes.proofs.Flushing.{flush_sized, flushed_Trimmable}
use Rattle.flushes.proofs.flush.Goals as goal

pub trim-requires : goal.trim-requires
unfolding flushed_head
trim-requires c =
    let shape : Shaped c.args.head.now = record { taken_8 = search rules; issued_8 = search rules; ends_64 = search rules } in
    flushed_Trimmable shape (flush_sized _ _ _ _ (sym c.flush_table.ensures.size ∙ c.in_ok-used.was)) _
