-- The grounds that several calls share: those of the store, of a state named, and of one to be flushed to.
-- Assumes nothing.
use Rattle.std.specs.Prelude.{Bool, not, ◌&&◌, List, [], ◌∷◌, ◌++◌, ℕ, ◌+◌, eqb, ltb, length}
use Rattle.answers.specs.declared.ground.Ground.TheVariants.{Lengths, Unsound, StateRange, TooDeep}
use Rattle.answers.specs.First.{Test, met}
use Rattle.layout.specs.declared.head.Head.{Head}
use Rattle.layout.specs.Clauses.{are_lengths}
use Rattle.soundness.specs.Sound.{is_sound}

-- ground 1: "The book's or the change memory's length is outside its range."
abbrev pub length_grounds : ℕ → ℕ → List Test
length_grounds table journal = met (not (are_lengths table journal)) Lengths ∷ []

-- grounds 1 and 2: "The store isn't sound"
abbrev pub store_grounds : List ℕ → List ℕ → Head → List Test
store_grounds table journal head =
    met (not (are_lengths (length table) (length journal))) Lengths ∷ met (not (is_sound table journal head)) Unsound ∷ []

-- ground 11: "The state named is below the anchor or above the tip."
abbrev pub state_grounds : Head → ℕ → List Test
state_grounds head state = met (ltb state head.checkpoint) StateRange ∷ met (ltb head.tip state) StateRange ∷ []

-- document 02, Q-6: "A flush to a state other than the anchor may go no higher than tip − depth", a difference of whole numbers: where
-- the tip lies below the depth, no such state may be flushed to
abbrev pub is_barred : Head → ℕ → Bool
is_barred head state = not (eqb state head.checkpoint) && ltb head.tip (state + head.depth)

-- grounds 11 and 20 ("a flush so barred, tested after 11")
abbrev pub target_grounds : Head → ℕ → List Test
target_grounds head state = state_grounds head state ++ (met (is_barred head state) TooDeep ∷ [])
