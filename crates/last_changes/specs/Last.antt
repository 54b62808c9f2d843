-- The last change of an offer among some steps, and where it stands among them (document 02, Q-4: "the last step naming the offer").
-- Assumes nothing.
use Rattle.std.specs.Prelude.{◌≡◌, List, [], ◌∷◌, ℕ, suc}
use Rattle.changes.specs.Found.{Found}
use Rattle.std.specs.Prelude.{Option, Some, None}
use Rattle.changes.specs.Calculus.{find}

-- the word of the last change and how many of the steps lead up to it, its own included; or none
abbrev pub Last : Type 0
Last = Option (ℕ × ℕ)

-- what was found in the later steps, which is then a step further on, else in the first one
abbrev pub onward : Last → Found → Last
onward (Some (w, n)) first = Some (w, suc n)
onward None (Some w) = Some (w, 1)
onward None None = None

-- the last of some steps that names an offer, whether it puts or removes it: its word there, and how many of the steps lead up to it,
-- itself included
unfoldable pub last_in : ℕ → List (List ℕ) → Last
last_in offer [] = None
last_in offer (step ∷ steps) = onward (last_in offer steps) (find offer step)

-- its word alone
abbrev pub word_in : Last → Found
word_in (Some (w, n)) = Some w
word_in None = None

-- the entry word and the number of steps, or nothing
abbrev pub said_by_last : Last → List ℕ
said_by_last (Some (w, n)) = w ∷ n ∷ []
said_by_last None = []

-- The promise of a last change: it is the one that is meant, and says the same.
abbrev pub LastIs : Last → Last → Type 0
LastIs last meant = (last ≡ meant) × (said_by_last last ≡ said_by_last meant)
