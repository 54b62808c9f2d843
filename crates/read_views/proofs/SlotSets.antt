-- A slot that opens or closes in a list of slots: at the checkpoint's number the least number stays, and without a slot it is no
-- lower.
-- Assumes nothing.
use mathlib.Core.Path.{◌≡◌, refl, ap}
use mathlib.Core.Bool.{Bool, true, false}
use mathlib.Core.List.{List, [], ◌∷◌, map}
use Prim.Native.Nat.{ℕ, zero, suc, ◌≤◌, min}
use native.Mathlib.Omega.{arith}
use lib.ListN.{get_or, set}
use Rattle.changes.specs.Lists.{All}
use Rattle.views.specs.View.{Slot, closed, holding, least_slot, open_of, issued_of}
use Rattle.views.proofs.SlotLists.{least_most}

-- a slot set in a list of slots, as the head has it
pub taken_set : (ss : List Slot) (k : ℕ) (s : Slot) → set (map open_of ss) k (open_of s) ≡ map open_of (set ss k s)
taken_set [] k s = refl
taken_set (t ∷ ss) zero s = refl
taken_set (t ∷ ss) (suc k) s = ap (λ (l : List Bool). open_of t ∷ l) (taken_set ss k s)

pub issued_set : (ss : List Slot) (k : ℕ) (s : Slot) → set (map issued_of ss) k (issued_of s) ≡ map issued_of (set ss k s)
issued_set [] k s = refl
issued_set (t ∷ ss) zero s = refl
issued_set (t ∷ ss) (suc k) s = ap (λ (l : List ℕ). issued_of t ∷ l) (issued_set ss k s)

pub all_set : (P : Slot → Type 0) (ss : List Slot) (k : ℕ) (s : Slot) → All P ss → P s → All P (set ss k s)
unfolding All
all_set P [] k s a p = tt
all_set P (t ∷ ss) zero s a p = (p, a.1)
all_set P (t ∷ ss) (suc k) s a p = (a.0, all_set P ss k s a.1 p)

-- a closed slot that opens at the checkpoint leaves the least number
pub least_set : (c : ℕ) (ss : List Slot) (k : ℕ) → get_or (map open_of ss) k false ≡ false
    → least_slot c (set ss k (holding c)) ≡ least_slot c ss
unfolding least_slot
least_set c [] k e = refl
least_set c (closed ∷ ss) zero e = omega (arith, least_most c ss)
least_set c (holding n ∷ ss) zero e = absurd (let z : ◌≡◌ {A = ℕ} 0 1 = cc in omega arith)
least_set c (closed ∷ ss) (suc k) e = least_set c ss k e
least_set c (holding n ∷ ss) (suc k) e = ap (min n) (least_set c ss k e)

-- a slot that closes does not lower it
pub least_closing : (c : ℕ) (ss : List Slot) (k : ℕ) → least_slot c ss ≤ least_slot c (set ss k closed)
unfolding least_slot
least_closing c [] k = omega arith
least_closing c (closed ∷ ss) zero = omega arith
least_closing c (holding n ∷ ss) zero = omega arith
least_closing c (closed ∷ ss) (suc k) = least_closing c ss k
least_closing c (holding n ∷ ss) (suc k) = omega (arith, least_closing c ss k)

-- an open slot holds its number
pub slot_there : (ss : List Slot) (k : ℕ) → get_or (map open_of ss) k false ≡ true → get_or ss k closed
    ≡ holding (get_or (map issued_of ss) k 0)
slot_there [] k e = absurd (let z : ◌≡◌ {A = ℕ} 0 1 = cc in omega arith)
slot_there (closed ∷ ss) zero e = absurd (let z : ◌≡◌ {A = ℕ} 0 1 = cc in omega arith)
slot_there (holding n ∷ ss) zero e = refl
slot_there (t ∷ ss) (suc k) e = slot_there ss k e
