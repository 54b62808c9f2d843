-- Lists laid out in memory: one after another with zeros behind, and a mark where each ends.
-- Assumes nothing.
use Rattle.std.specs.Prelude.{◌≡◌, true, List, [], ◌∷◌, ◌++◌, ℕ, ◌+◌, ◌-◌, ◌≤◌, length, replicate}
use Rattle.changes.specs.Lists.{is_list, All}

-- words with zeros behind, to a length
abbrev pub padded : ℕ → List ℕ → List ℕ
padded n l = l ++ replicate (n - length l) 0

-- lists one after another, and where each ends
unfoldable pub flat : List (List ℕ) → List ℕ
flat [] = []
flat (d ∷ ds) = d ++ flat ds

unfoldable pub marks_from : ℕ → List (List ℕ) → List ℕ
marks_from n [] = []
marks_from n (d ∷ ds) = (n + length d) ∷ marks_from (n + length d) ds

-- the words of lists that are laid out in so many words
abbrev pub laid_words : ℕ → List (List ℕ) → List ℕ
laid_words room lists = padded room (flat lists)

-- their marks: "A mark is the count of change words through the end of its step", "marks not in use are 0"
abbrev pub laid_marks : List (List ℕ) → List ℕ
laid_marks lists = padded 64 (marks_from 0 lists)

-- lists that can be laid out in so many words: each meets the rules of a list, there is a mark for each, and the words suffice
pub record Fits (room : ℕ) (lists : List (List ℕ)) : Type 0 where
  pub each : All (λ d. is_list d ≡ true) lists
  pub few : length lists ≤ 64
  pub words : length (flat lists) ≤ room
