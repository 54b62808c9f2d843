-- What a search for an offer says.
-- Assumes nothing.
use Rattle.std.specs.Prelude.{◌≡◌, List, [], ◌∷◌, ℕ}
use Rattle.changes.specs.Found.{Found}
use Rattle.std.specs.Prelude.{Some, None}

-- the entry word at the offer, or no word
abbrev pub said_by_found : Found → List ℕ
said_by_found (Some w) = w ∷ []
said_by_found None = []

-- The promise of a search: it finds what is meant, and says the same.
abbrev pub Finds : Found → Found → Type 0
Finds found meant = (found ≡ meant) × (said_by_found found ≡ said_by_found meant)
