-- Flush, on memory and head: "Flush to s makes the book the map at s, and s the anchor."
-- "everything lent and the head keep their values" where a call is turned away.
-- Assumes nothing.
use Rattle.std.specs.Prelude.{cond, Result, List, [], ◌∷◌, ◌++◌, ℕ, ltb, length}
use Rattle.answers.specs.declared.ground.Ground.{Ground}
use Rattle.answers.specs.Check.{Check}
use Rattle.answers.specs.declared.ground.Ground.TheVariants.{TableFull}
use Rattle.std.specs.Result.{result_map_both}
use Rattle.answers.specs.First.{Test, met, first, if_passed}
use Rattle.layout.specs.declared.head.Head.{Head}
use Rattle.layout.specs.Heads.{with_table}
use Rattle.layout.specs.States.{map_here}
use Rattle.soundness.specs.Checks.{store_grounds, target_grounds}
use Rattle.views.specs.Trim.{trimmed_head, trimmed_journal}
use Rattle.views.specs.View.{padded}

-- grounds 1, 2, 11 ("below the anchor or above the tip"), 20, 16 ("The map to be flushed or loaded has more offers than the book has
-- words"): only the map at the state named counts, not those on the way to it
abbrev pub flush_grounds : List ℕ → List ℕ → Head → ℕ → List Test
flush_grounds table journal head state =
    store_grounds table journal head
    ++ target_grounds head state
    ++ (met (ltb (length table) (length (map_here table journal head state))) TableFull ∷ [])

abbrev pub flush_check : List ℕ → List ℕ → Head → ℕ → Check
flush_check table journal head state = first (flush_grounds table journal head state)

-- the words that the table uses after a flush, or the ground that turns it away
abbrev pub flush_size : List ℕ → List ℕ → Head → ℕ → Result ℕ Ground
flush_size table journal head state =
    result_map_both (λ _. length (map_here table journal head state)) (λ why. why) (flush_check table journal head state)

-- "and s the anchor": the head whose table holds the state in so many words; its floor may lie too low
unfoldable pub flushed_head : Head → ℕ → ℕ → Head
flushed_head = with_table

-- the map at a state in the table, if the table has room for it
abbrev pub table_at : List ℕ → List ℕ → Head → ℕ → List ℕ
table_at table journal head state =
    cond (ltb (length table) (length (map_here table journal head state))) table (padded (length table) (map_here table journal head state))

-- "makes the book the map at s"
abbrev pub flush_table : List ℕ → List ℕ → Head → ℕ → List ℕ
flush_table table journal head state =
    if_passed (flush_check table journal head state) (padded (length table) (map_here table journal head state)) table

-- "After flush, forward or drop the floor is worked out anew, steps below it go, the rest move to the start"
abbrev pub flush_head : List ℕ → List ℕ → Head → ℕ → Head
flush_head table journal head state =
    if_passed (flush_check table journal head state)
    (trimmed_head (flushed_head head (length (map_here table journal head state)) state)) head

abbrev pub flush_journal : List ℕ → List ℕ → Head → ℕ → List ℕ
flush_journal table journal head state =
    if_passed (flush_check table journal head state)
    (trimmed_journal (flushed_head head (length (map_here table journal head state)) state) journal)
    journal
