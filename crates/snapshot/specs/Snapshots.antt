-- Clear and load, on memory and head: the first ground that is met, and what is left in memory and head.
-- "everything lent and the head keep their values" where a call is turned away.
-- Assumes nothing.
use Rattle.std.specs.Prelude.{not, List, [], ◌∷◌, ◌++◌, ℕ, ltb, length, replicate}
use Rattle.answers.specs.Check.{Check}
use Rattle.answers.specs.declared.call.Format.{Format}
use Rattle.answers.specs.declared.ground.Ground.TheVariants.{BadImage, TableFull, TooDeep}
use Rattle.answers.specs.First.{Test, met, first, if_passed}
use Rattle.image.specs.Image.{number_in}
use Rattle.formats.specs.Formats.{is_of_format, map_in}
use Rattle.layout.specs.declared.head.Head.{Head}
use Rattle.layout.specs.Clauses.{is_depth}
use Rattle.soundness.specs.Checks.{length_grounds}
use Rattle.views.specs.View.{padded}
use Rattle.snapshot.specs.Fresh.{fresh_head}

-- "A store is cleared or loaded with a depth from 0 to 63": grounds 1 and 20 ("a depth above 63"), for memory of these lengths
abbrev pub fresh_grounds : ℕ → ℕ → ℕ → List Test
fresh_grounds table journal depth = length_grounds table journal ++ (met (not (is_depth depth)) TooDeep ∷ [])

-- "Clear gives the empty map as state 0 in the same way. Both set all other words of book and change memory to zero."
abbrev pub clear_check : List ℕ → List ℕ → ℕ → Check
clear_check table journal depth = first (fresh_grounds (length table) (length journal) depth)

abbrev pub clear_head : List ℕ → List ℕ → ℕ → Head → Head
clear_head table journal depth head = if_passed (clear_check table journal depth) (fresh_head 0 0 depth) head

abbrev pub clear_words : List ℕ → List ℕ → ℕ → List ℕ → List ℕ
clear_words table journal depth words = if_passed (clear_check table journal depth) (replicate (length words) 0) words

-- load, of an image or a sheet: grounds 1, 20 ("tested after 11"), 15, 16, for memory of these lengths. "A broken sheet is 15, then 16
-- and 17 follow as for images."
abbrev pub load_grounds : ℕ → ℕ → ℕ → Format → List ℕ → List Test
load_grounds table journal depth format bytes =
    fresh_grounds table journal depth
    ++ (met (not (is_of_format format bytes)) BadImage ∷ met (ltb table (length (map_in format bytes))) TableFull ∷ [])

abbrev pub load_check : List ℕ → List ℕ → ℕ → Format → List ℕ → Check
load_check table journal depth format bytes = first (load_grounds (length table) (length journal) depth format bytes)

abbrev pub load_head : List ℕ → List ℕ → ℕ → Format → List ℕ → Head → Head
load_head table journal depth format bytes head =
    if_passed (load_check table journal depth format bytes) (fresh_head (length (map_in format bytes)) (number_in bytes) depth) head

abbrev pub load_table : List ℕ → List ℕ → ℕ → Format → List ℕ → List ℕ
load_table table journal depth format bytes =
    if_passed (load_check table journal depth format bytes) (padded (length table) (map_in format bytes)) table

abbrev pub load_journal : List ℕ → List ℕ → ℕ → Format → List ℕ → List ℕ
load_journal table journal depth format bytes =
    if_passed (load_check table journal depth format bytes) (replicate (length journal) 0) journal
