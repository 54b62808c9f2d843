-- What holds of each element: of two lists, of both; and what follows from it element by element.
-- Assumes nothing.
use mathlib.Core.List.{List, [], ◌∷◌, ◌++◌}
use Rattle.changes.specs.Lists.{All}

pub all_both : {A : Type 0} (P : A → Type 0) (a b : List A) → All P a → All P b → All P (a ++ b)
unfolding All
all_both P [] b h g = g
all_both P (x ∷ a) b h g = (h.0, all_both P a b h.1 g)

pub all_map : {A : Type 0} {P Q : A → Type 0} → ((x : A) → P x → Q x) → (l : List A) → All P l → All Q l
unfolding All
all_map f [] h = tt
all_map f (x ∷ l) h = (f x h.0, all_map f l h.1)
