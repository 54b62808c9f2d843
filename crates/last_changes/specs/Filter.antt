-- A filter of offers: what it holds after words were noted, and when it may be asked about the steps of a journal.
-- Assumes nothing.
use Rattle.std.specs.Prelude.{◌≡◌, Bool, true, false, List, [], ◌∷◌, ℕ, ◌%◌, ◌≤◌, ◌<◌, length, get_or, set}
use Rattle.entry.specs.Word.{offer_of}
use Rattle.changes.specs.Runs.{step_of}

-- the cell of a word's offer
abbrev pub cell_of : ℕ → ℕ
cell_of word = offer_of word % 16384

-- the filter with the words' offers noted in it
unfoldable pub noted : List Bool → List ℕ → List Bool
noted filter [] = filter
noted filter (w ∷ l) = noted (set filter (cell_of w) true) l

-- every word of the steps from one position up to another, exclusive, is noted
pub record Noted (filter : List Bool) (journal ends : List ℕ) (from to : ℕ) : Type 0 where
  pub long : length filter ≡ 16384
  pub each : (k : ℕ) → from ≤ k → k < to → (i : ℕ) → i < length (step_of journal ends k)
      → get_or filter (cell_of (get_or (step_of journal ends k) i 0)) false ≡ true
