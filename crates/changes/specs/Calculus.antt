-- The calculus of changes (document 01, "Laws of changes"): search, composition and application of lists of entry words.
-- Assumes nothing.
use Rattle.std.specs.Prelude.{cond, List, [], ◌∷◌, ℕ, ltb, eqb}
use Rattle.entry.specs.Word.{offer_of, is_put}
use Rattle.std.specs.declared.cmp.Ordering.{Ordering}
use Rattle.std.specs.declared.cmp.Ordering.TheVariants.{Less, Equal, Greater}
use Rattle.changes.specs.Found.{Found}
use Rattle.std.specs.Prelude.{Some, None}

-- the word of a list at an offer
unfoldable pub find : ℕ → List ℕ → Found
find k [] = None
find k (w ∷ l) = cond (eqb (offer_of w) k) (Some w) (find k l)

-- the first of two searches that found something
abbrev pub or_else : Found → Found → Found
or_else (Some w) f = Some w
or_else None f = f

-- what was found, if it is of kind 1
abbrev pub if_put : Found → Found
if_put (Some w) = cond (is_put w) (Some w) None
if_put None = None

-- where a number lies, seen from another
abbrev pub side : ℕ → ℕ → Ordering
side m n = cond (ltb m n) Less (cond (ltb n m) Greater Equal)

-- where the first offer of some words lies, seen from a word's offer; where there is none, above
unfoldable pub side_of : List ℕ → ℕ → Ordering
side_of [] w = Greater
side_of (v ∷ l) w = side (offer_of v) (offer_of w)

abbrev pub by_side {ℓ} : {A : Type ℓ} → Ordering → A → A → A → A
by_side Less x y z = x
by_side Equal x y z = y
by_side Greater x y z = z

-- "Composition has the later word win for each offer": a merge in which the word of b, the later list, replaces that of a
unfoldable pub compose : List ℕ → List ℕ → List ℕ
compose [] b = b
compose (v ∷ a) [] = v ∷ a
compose (v ∷ a) (w ∷ b) =
    let earlier = v ∷ compose a (w ∷ b) in
    let replaced = w ∷ compose a b in
    let later = w ∷ compose (v ∷ a) b in
    by_side (side (offer_of v) (offer_of w)) earlier replaced later

-- the words of kind 1
unfoldable pub puts : List ℕ → List ℕ
puts [] = []
puts (w ∷ l) = cond (is_put w) (w ∷ puts l) (puts l)

-- "Applying a list puts or removes its offers and touches no other"
unfoldable pub apply : List ℕ → List ℕ → List ℕ
apply m d = puts (compose m d)

-- a run of lists, oldest first, composed
unfoldable pub compose_all : List (List ℕ) → List ℕ
compose_all [] = []
compose_all (d ∷ ds) = compose d (compose_all ds)

-- a run of lists applied in turn
unfoldable pub apply_all : List ℕ → List (List ℕ) → List ℕ
apply_all m [] = m
apply_all m (d ∷ ds) = apply_all (apply m d) ds
