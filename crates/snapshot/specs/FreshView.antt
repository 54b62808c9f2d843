-- The view of a store that has one state: a map under its number, no step, no open slot and a depth.
-- Assumes nothing.
use Rattle.std.specs.Prelude.{List, [], ℕ, replicate}
use Rattle.views.specs.View.{View, Limits, closed}

unfoldable pub fresh_view : List ℕ → ℕ → ℕ → Limits → View
fresh_view words number depth limits = record {
  base = words;
  old = [];
  steps = [];
  checkpoint = number;
  slots = replicate 8 closed;
  limits = limits;
  depth = depth;
}
