-- Steps that lie one after another in a slice of words, each ending where its mark says.
-- Assumes nothing.
use Rattle.std.specs.Prelude.{List, [], ◌∷◌, ℕ, zero, suc, ◌+◌, ◌-◌, ◌≤◌, length, get_or, take, drop}

-- where step i starts: at the end of the one before it, the first at 0
abbrev pub start_of : List ℕ → ℕ → ℕ
start_of ends i = get_or (0 ∷ ends) i 0

-- the words of step i
abbrev pub step_of : List ℕ → List ℕ → ℕ → List ℕ
step_of words ends i = take (start_of ends (i + 1) - start_of ends i) (drop (start_of ends i) words)

-- n steps from step i on
unfoldable pub run_of : List ℕ → List ℕ → ℕ → ℕ → List (List ℕ)
run_of words ends i zero = []
run_of words ends i (suc n) = step_of words ends i ∷ run_of words ends (i + 1) n

-- the words of the steps from i up to j, exclusive
abbrev pub run_words : List ℕ → ℕ → ℕ → ℕ
run_words ends i j = start_of ends j - start_of ends i

-- the marks of the steps below n do not fall and lie within the words
pub record Marked (words ends : List ℕ) (n : ℕ) : Type 0 where
  pub within : n ≤ length ends
  pub rises : (i j : ℕ) → i ≤ j → j ≤ n → start_of ends i ≤ start_of ends j
  pub inside : start_of ends n ≤ length words
