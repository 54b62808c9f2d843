-- A head with some of its fields set, and the others as they were: one setter for each group of fields that calls change.
-- Assumes nothing.
use Rattle.std.specs.Prelude.{Bool, List, ℕ}
use Rattle.layout.specs.declared.head.Head.{Head}

-- the head with all that tells what its store holds; a field that calls carry along unread stays as it was
abbrev pub head_with : Head → ℕ → ℕ → ℕ → ℕ → List Bool → List ℕ → List ℕ → ℕ → Head
head_with head used oldest checkpoint tip taken issued ends depth = record head {
  used = used;
  oldest = oldest;
  checkpoint = checkpoint;
  tip = tip;
  taken = taken;
  issued = issued;
  ends = ends;
  depth = depth;
}

-- the head of a store whose table holds the map at this checkpoint in so many words: flush
abbrev pub with_table : Head → ℕ → ℕ → Head
with_table head used checkpoint = record head { used = used; checkpoint = checkpoint }

-- the head of a store whose held steps lead to this tip and end at these marks: commit, rollback
abbrev pub with_steps : Head → ℕ → List ℕ → Head
with_steps head tip ends = record head { tip = tip; ends = ends }

-- the head of a store whose slots are open where this says so, each issued at its number: issue, forward, release
abbrev pub with_slots : Head → List Bool → List ℕ → Head
with_slots head taken issued = record head { taken = taken; issued = issued }

-- the head of a store whose held steps lead on from this floor and end at these marks: trim
abbrev pub with_floor : Head → ℕ → List ℕ → Head
with_floor head oldest ends = record head { oldest = oldest; ends = ends }
