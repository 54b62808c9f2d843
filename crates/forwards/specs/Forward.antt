-- Forward (document 01, "Laws of changes"): "Forward applies to the lent read set, for its own offers, all steps from the place's
-- number to the named state, then closes the place."
-- Assumes nothing.
use Rattle.std.specs.Prelude.{false, not, List, [], ◌∷◌, ◌++◌, ℕ, length, get_or}
use Rattle.changes.specs.Calculus.{compose_all}
use Rattle.changes.specs.Lists.{is_list}
use Rattle.changes.specs.ReadSets.{over}
use Rattle.answers.specs.Check.{Check}
use Rattle.answers.specs.declared.call.Reader.{Reader}
use Rattle.answers.specs.declared.ground.Ground.TheVariants.{SlotClosed, BadList}
use Rattle.answers.specs.First.{Test, met, first, if_passed}
use Rattle.layout.specs.declared.head.Head.{Head}
use Rattle.soundness.specs.Checks.{store_grounds, state_grounds}
use Rattle.layout.specs.States.{steps_between}
use Rattle.views.specs.Trim.{trimmed_head, trimmed_journal}
use Rattle.slots.specs.Callers.{long_grounds}
use Rattle.slots.specs.Slots.{slot_grounds, closed_at}

-- grounds 1, 2, 3, 19, 5, 6 ("A list breaks its rules"), 18 (of the read set that is lent), 11 ("below the anchor or above the tip")
abbrev pub forward_grounds : List ℕ → List ℕ → Head → Reader → ℕ → List ℕ → List Test
forward_grounds table journal head reader state words =
    store_grounds table journal head
    ++ slot_grounds reader
    ++ (met (not (get_or head.taken reader.slot false)) SlotClosed ∷ met (not (is_list words)) BadList ∷ [])
    ++ long_grounds reader.caller (length words)
    ++ state_grounds head state

abbrev pub forward_check : List ℕ → List ℕ → Head → Reader → ℕ → List ℕ → Check
forward_check table journal head reader state words = first (forward_grounds table journal head reader state words)

-- the steps from the slot's number, which may lie below the checkpoint, to the state
abbrev pub steps_for : List ℕ → Head → Reader → ℕ → List (List ℕ)
steps_for journal head reader state = steps_between journal head (get_or head.issued reader.slot 0) state

abbrev pub forward_reads : List ℕ → List ℕ → Head → Reader → ℕ → List ℕ → List ℕ
forward_reads table journal head reader state words =
    if_passed (forward_check table journal head reader state words) (over words (compose_all (steps_for journal head reader state))) words

abbrev pub forward_head : List ℕ → List ℕ → Head → Reader → ℕ → List ℕ → Head
forward_head table journal head reader state words =
    if_passed (forward_check table journal head reader state words) (trimmed_head (closed_at head reader.slot)) head

abbrev pub forward_journal : List ℕ → List ℕ → Head → Reader → ℕ → List ℕ → List ℕ
forward_journal table journal head reader state words =
    if_passed (forward_check table journal head reader state words) (trimmed_journal (closed_at head reader.slot) journal) journal
