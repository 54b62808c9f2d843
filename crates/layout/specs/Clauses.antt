-- The clauses of soundness (document 01, "What the unit holds" and "Sound means"; document 02, Q-6), one by one.
-- Assumes nothing.
use Rattle.std.specs.Prelude.{Bool, false, cond, List, [], ◌∷◌, ℕ, ◌+◌, ◌-◌, leb, eqb, length, get_or, take, drop}
use Rattle.changes.specs.Lists.{is_list, is_map}
use Rattle.changes.specs.Runs.{start_of, step_of}
use Rattle.layout.specs.Tests.{all_below, all_of, are_zeros}

-- "The book is 1 to 8,000 lent words", "Change memory is 1 to 4,096 lent words": ground 1
abbrev pub are_lengths : ℕ → ℕ → Bool
are_lengths table journal = all_of (leb 1 table ∷ leb table 8000 ∷ leb 1 journal ∷ leb journal 4096 ∷ [])

-- "used words of kind 1, offers strictly rising, then zeros."
abbrev pub is_table : List ℕ → ℕ → Bool
is_table table used = all_of (leb used (length table) ∷ is_map 0 (take used table) ∷ are_zeros (drop used table) ∷ [])

-- "floor ≤ anchor ≤ tip, tip − floor at most 64"
abbrev pub are_numbers : ℕ → ℕ → ℕ → Bool
are_numbers oldest checkpoint tip = all_of (leb oldest checkpoint ∷ leb checkpoint tip ∷ leb (tip - oldest) 64 ∷ [])

-- "the lists of the held steps, oldest first": "A mark is the count of change words through the end of its step"
abbrev pub is_step : List ℕ → List ℕ → ℕ → Bool
is_step journal ends k =
    all_of
    (leb (start_of ends k) (start_of ends (k + 1))
    ∷ leb (start_of ends (k + 1)) (length journal)
    ∷ is_list (step_of journal ends k)
    ∷ [])

-- "the lists of the held steps, oldest first, then zeros", "marks not in use are 0": so many lists with their marks
abbrev pub is_journal : List ℕ → List ℕ → ℕ → Bool
is_journal words ends n =
    all_of (all_below n (is_step words ends) ∷ are_zeros (drop (start_of ends n) words) ∷ are_zeros (drop n ends) ∷ [])

-- "An open place records the anchor at its issue; a closed one records 0", "no open place's number above the anchor"
abbrev pub is_slot : ℕ → List Bool → List ℕ → ℕ → Bool
is_slot checkpoint taken issued k = cond (get_or taken k false) (leb (get_or issued k 0) checkpoint) (eqb (get_or issued k 0) 0)

abbrev pub are_slots : ℕ → List Bool → List ℕ → Bool
are_slots checkpoint taken issued = all_below 8 (is_slot checkpoint taken issued)

-- document 02, Q-6: "a depth from 0 to 63", and "A sound head has such a depth."
abbrev pub is_depth : ℕ → Bool
is_depth depth = leb depth 63
