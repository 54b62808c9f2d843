-- Read sets: what a map shows at the offers of some words, and changes applied to it at its own offers (document 01, "Laws of
-- changes"; equations 8 and 9 of 000).
-- Assumes nothing.
use Rattle.std.specs.Prelude.{List, map, ℕ}
use Rattle.entry.specs.Word.{offer_of, none_of}
use Rattle.changes.specs.Found.{Found}
use Rattle.std.specs.Prelude.{Some, None}
use Rattle.changes.specs.Calculus.{find}

-- the word that was found, or else another
abbrev pub found_or : Found → ℕ → ℕ
found_or (Some v) w = v
found_or None w = w

-- the read set of a map at the offers of a list: for each the word that shows its price, or none
unfoldable pub read_of : List ℕ → List ℕ → List ℕ
read_of m = map (λ w. found_or (find (offer_of w) m) (none_of (offer_of w)))

-- changes applied to a read set at its own offers: "a read set keeps exactly its own"
unfoldable pub over : List ℕ → List ℕ → List ℕ
over reads d = map (λ w. found_or (find (offer_of w) d) w) reads
