-- The structured view of a sound store: its maps, lists and numbers, apart from how they lie in memory.
-- Assumes nothing.
use Rattle.std.specs.Prelude.{◌≡◌, Bool, true, false, List, [], ◌∷◌, ◌++◌, map, ℕ, ◌+◌, ◌-◌, ◌≤◌, min, length, take, drop}
use Rattle.changes.specs.Calculus.{apply, compose_all}
use Rattle.changes.specs.Lists.{All, Map}
use Rattle.changes.specs.Runs.{run_of}
use Rattle.layout.specs.declared.head.Head.{Head}
use Rattle.layout.specs.Heads.{head_with}
use Rattle.layout.specs.States.{held_of}
use Rattle.views.specs.Laid.{laid_words, laid_marks, Fits}
unfoldable pub use Rattle.views.specs.Laid.{padded, flat, marks_from}

-- the memory of a store with its head
pub record Store : Type 0 where
  pub table : List ℕ
  pub journal : List ℕ
  pub head : Head

-- a reading place: closed, or open with the anchor at its issue
pub data Slot : Type 0 where
  closed : Slot
  holding : ℕ → Slot

-- the lengths lent
pub record Limits : Type 0 where
  pub table : ℕ
  pub journal : ℕ

pub record View : Type 0 where
  -- the map at the checkpoint (anchor)
  pub base : List ℕ
  -- the held steps that lead up to the checkpoint, and those that lead on from it, oldest first
  pub old : List (List ℕ)
  pub steps : List (List ℕ)
  pub checkpoint : ℕ
  pub slots : List Slot
  pub limits : Limits
  -- the depth that must stay
  pub depth : ℕ

-- a view with other steps that lead on from its checkpoint: commit, rollback
abbrev pub view_steps : View → List (List ℕ) → View
view_steps v steps = record v { steps = steps }

-- a view with other steps that lead up to its checkpoint: trim
abbrev pub view_old : View → List (List ℕ) → View
view_old v old = record v { old = old }

-- a view with other slots: issue, forward, release
abbrev pub view_slots : View → List Slot → View
view_slots v slots = record v { slots = slots }

-- a view with another checkpoint, which has its map and the steps that lead up to it and on from it: flush
abbrev pub view_table : View → List ℕ → List (List ℕ) → List (List ℕ) → ℕ → View
view_table v base old steps checkpoint = record v { base = base; old = old; steps = steps; checkpoint = checkpoint }

-- all held steps
abbrev pub held_steps : View → List (List ℕ)
held_steps v = v.old ++ v.steps

abbrev pub tip_of : View → ℕ
tip_of v = v.checkpoint + length v.steps

-- "State number s is the book with the steps from the anchor to s applied, for anchor ≤ s ≤ tip."
unfoldable pub map_at : View → ℕ → List ℕ
map_at v s = apply v.base (compose_all (take (s - v.checkpoint) v.steps))

-- the least of a number and the numbers of the open slots
unfoldable pub least_slot : ℕ → List Slot → ℕ
least_slot c [] = c
least_slot c (closed ∷ slots) = least_slot c slots
least_slot c (holding n ∷ slots) = min n (least_slot c slots)

-- a slot as the head has it, and back
abbrev pub open_of : Slot → Bool
open_of closed = false
open_of (holding n) = true

abbrev pub issued_of : Slot → ℕ
issued_of closed = 0
issued_of (holding n) = n

abbrev pub slot_of : Bool → ℕ → Slot
slot_of true n = holding n
slot_of false n = closed

unfoldable pub slots_of : List Bool → List ℕ → List Slot
slots_of [] numbers = []
slots_of (m ∷ marks) [] = slot_of m 0 ∷ slots_of marks []
slots_of (m ∷ marks) (n ∷ numbers) = slot_of m n ∷ slots_of marks numbers

-- a view in memory; what it does not tell of a head stays as in the one that is given
unfoldable pub encode : Head → View → Store
encode head v = record {
  table = padded v.limits.table v.base;
  journal = laid_words v.limits.journal (held_steps v);
  head =
      head_with head
      (length v.base)
      (v.checkpoint - length v.old)
      v.checkpoint
      (tip_of v)
      (map open_of v.slots)
      (map issued_of v.slots)
      (laid_marks (held_steps v))
      v.depth;
}

-- the view of what lies in memory
unfoldable pub decode : Store → View
decode s =
    let all = run_of s.journal s.head.ends 0 (held_of s.head) in
    let before = s.head.checkpoint - s.head.oldest in
    record {
      base = take s.head.used s.table;
      old = take before all;
      steps = drop before all;
      checkpoint = s.head.checkpoint;
      slots = slots_of s.head.taken s.head.issued;
      limits = record { table = length s.table; journal = length s.journal };
      depth = s.head.depth;
    }

-- an open slot's number is not above the checkpoint
abbrev pub NotAbove : ℕ → Slot → Type 0
NotAbove c closed = Unit
NotAbove c (holding n) = n ≤ c

-- a view that memory can hold, where its floor stands so to the least of the checkpoint and the open slots' numbers
pub record Storable (Stands : ℕ → ℕ → Type 0) (v : View) : Type 0 where
  pub map : Map v.base
  pub room : length v.base ≤ v.limits.table
  pub held : Fits v.limits.journal (held_steps v)
  pub eight : length v.slots ≡ 8
  pub below : All (NotAbove v.checkpoint) v.slots
  pub since : length v.old ≤ v.checkpoint
  pub floor : Stands (v.checkpoint - length v.old) (least_slot v.checkpoint v.slots)
  pub deep : v.depth ≤ 63

-- a view that memory can hold: its floor is the least of them
abbrev pub Good : View → Type 0
Good v = Storable ◌≡◌ v

-- a view that memory can hold, but for a floor that may lie too low
abbrev pub Nearly : View → Type 0
Nearly v = Storable ◌≤◌ v

-- the arrays of a head have their lengths
pub record Shaped (h : Head) : Type 0 where
  pub taken_8 : length h.taken ≡ 8
  pub issued_8 : length h.issued ≡ 8
  pub ends_64 : length h.ends ≡ 64
