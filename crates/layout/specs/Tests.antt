-- Tests over words and positions, of which soundness is made.
-- Assumes nothing.
use Rattle.std.specs.Prelude.{Bool, true, cond, ◌&&◌, List, [], ◌∷◌, ℕ, zero, suc, min, eqb}

-- the test holds of each number below n
unfoldable pub all_below : ℕ → (ℕ → Bool) → Bool
all_below zero test = true
all_below (suc n) test = all_below n test && test n

-- each of the tests holds
unfoldable pub all_of : List Bool → Bool
all_of [] = true
all_of (t ∷ ts) = t && all_of ts

-- nothing but zeros
unfoldable pub are_zeros : List ℕ → Bool
are_zeros [] = true
are_zeros (w ∷ l) = eqb w 0 && are_zeros l

-- the least of a number and the numbers that are marked
unfoldable pub least : ℕ → List Bool → List ℕ → ℕ
least c [] numbers = c
least c (m ∷ marks) [] = c
least c (m ∷ marks) (n ∷ numbers) = cond m (min n (least c marks numbers)) (least c marks numbers)
