-- The steps of a journal that a search goes through.
-- Assumes nothing.
use Rattle.std.specs.Prelude.{List, ℕ, ◌≤◌, ◌<◌}
use Rattle.changes.specs.Lists.{From}
use Rattle.changes.specs.Runs.{step_of, Marked}

-- the steps from one position up to another, exclusive, lie in the journal, and the offers of each rise
pub record Rising (journal ends : List ℕ) (from to : ℕ) : Type 0 where
  pub marked : Marked journal ends to
  pub order : from ≤ to
  pub rises : (k : ℕ) → from ≤ k → k < to → From 0 (step_of journal ends k)
