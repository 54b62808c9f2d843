-- `lookups::price_after` meets its contract: the last change tells the price and since when, and without one the map.
-- Assumes nothing.
use mathlib.Core.Path.{◌∙◌, sym, ap}
use Prim.Native.Nat.{◌-◌}
use native.Mathlib.Omega.{arith}
use Rattle.changes.specs.Calculus.{if_put}
use Rattle.changes.specs.Runs.{run_of}
use Rattle.answers.specs.declared.answer.Since.TheVariants.{Table}
use Rattle.lookups.specs.LookUp.{quote_at}
use Rattle.lookups.proofs.Quoting.{told_by_change, told_by_map}
use Rattle.last_changes.proofs.Seeking.{between_rises}
use Rattle.last_changes.proofs.Theorems.{last_within}
use Rattle.lookups.proofs.price_after.Goals as goal

-- the last change is one of the steps up to the state
pub overflow_add-since : goal.overflow_add-since
overflow_add-since c = let args = c.args in
    record {
      fits =
          omega (
            arith,
            c.requires.2,
            last_within args.journal.now args.ends.now args.offer args.from (args.to - args.from) _ _
                (sym c.in-Some.is ∙ c.last_change-last.ensures.1.0),
          );
    }

pub returns-in-Some : goal.returns-in-Some
returns-in-Some c = let args = c.args in
    c.quote_of.ensures
    ∙ told_by_change args.offer args.checkpoint args.base.now
    (run_of args.journal.now args.ends.now args.from (args.to - args.from))
    c.last_change-last.result c.requires.0 (between_rises c.requires.1) c.last_change-last.ensures.0.0 c.last_change-last.ensures.1.0
    _ _ c.in-Some.is

pub returns : goal.returns
returns c = let args = c.args in
    c.quote_of-2.ensures
    ∙ ap (λ f. quote_at (if_put f) Table) c.find.ensures.0
    ∙ told_by_map args.offer args.checkpoint args.base.now
    (run_of args.journal.now args.ends.now args.from (args.to - args.from))
    c.last_change-last.result c.requires.0 (between_rises c.requires.1) c.last_change-last.ensures.0.0 c.last_change-last.ensures.1.0
    c.in_default.is
