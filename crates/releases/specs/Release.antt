-- Release (document 01, "Laws of changes"): "Drop only closes it." "After flush, forward or drop the floor is worked out anew".
-- Assumes nothing.
use Rattle.std.specs.Prelude.{false, not, List, [], ◌∷◌, ◌++◌, ℕ, get_or}
use Rattle.answers.specs.Check.{Check}
use Rattle.answers.specs.declared.call.Reader.{Reader}
use Rattle.answers.specs.declared.ground.Ground.TheVariants.{SlotClosed}
use Rattle.answers.specs.First.{Test, met, first, if_passed}
use Rattle.layout.specs.declared.head.Head.{Head}
use Rattle.soundness.specs.Checks.{store_grounds}
use Rattle.views.specs.Trim.{trimmed_head, trimmed_journal}
use Rattle.slots.specs.Slots.{slot_grounds, closed_at}

-- grounds 1, 2, 3, 19, 5
abbrev pub release_grounds : List ℕ → List ℕ → Head → Reader → List Test
release_grounds table journal head reader =
    store_grounds table journal head ++ slot_grounds reader ++ (met (not (get_or head.taken reader.slot false)) SlotClosed ∷ [])

abbrev pub release_check : List ℕ → List ℕ → Head → Reader → Check
release_check table journal head reader = first (release_grounds table journal head reader)

abbrev pub release_head : List ℕ → List ℕ → Head → Reader → Head
release_head table journal head reader =
    if_passed (release_check table journal head reader) (trimmed_head (closed_at head reader.slot)) head

abbrev pub release_journal : List ℕ → List ℕ → Head → Reader → List ℕ
release_journal table journal head reader =
    if_passed (release_check table journal head reader) (trimmed_journal (closed_at head reader.slot) journal) journal
