-- Issue (document 01, "Laws of changes"): "Issue takes a list of kind 0 words in lent memory and a place from 0 to 7, fills the list
-- from the book, and opens the place."
-- Assumes nothing.
use Rattle.std.specs.Prelude.{false, not, List, ◌∷◌, ◌++◌, ℕ, length, take, get_or}
use Rattle.changes.specs.Lists.{is_list, has_no_put}
use Rattle.changes.specs.ReadSets.{read_of}
use Rattle.answers.specs.Check.{Check}
use Rattle.answers.specs.declared.call.Reader.{Reader}
use Rattle.answers.specs.declared.ground.Ground.TheVariants.{SlotTaken, BadList}
use Rattle.answers.specs.First.{Test, met, first, if_passed}
use Rattle.layout.specs.declared.head.Head.{Head}
use Rattle.soundness.specs.Checks.{store_grounds}
use Rattle.slots.specs.Callers.{long_grounds}
use Rattle.slots.specs.Slots.{slot_grounds, opened}

-- grounds 1, 2, 3, 19, 4, 6 ("A list breaks its rules, an issue's list has a kind 1 word"), 18
abbrev pub issue_grounds : List ℕ → List ℕ → Head → Reader → List ℕ → List Test
issue_grounds table journal head reader list =
    store_grounds table journal head
    ++ slot_grounds reader
    ++ (met (get_or head.taken reader.slot false) SlotTaken
    ∷ met (not (is_list list)) BadList
    ∷ met (not (has_no_put list)) BadList
    ∷ long_grounds reader.caller (length list))

abbrev pub issue_check : List ℕ → List ℕ → Head → Reader → List ℕ → Check
issue_check table journal head reader list = first (issue_grounds table journal head reader list)

abbrev pub issue_head : List ℕ → List ℕ → Head → Reader → List ℕ → Head
issue_head table journal head reader list = if_passed (issue_check table journal head reader list) (opened head reader.slot) head

-- the list shows, for each of its offers, its price in the table, or none
abbrev pub issue_list : List ℕ → List ℕ → Head → Reader → List ℕ → List ℕ
issue_list table journal head reader list =
    if_passed (issue_check table journal head reader list) (read_of (take head.used table) list) list
