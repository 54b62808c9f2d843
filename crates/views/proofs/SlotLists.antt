-- Slots as a head has them, and as a list of their own.
-- Assumes nothing.
use mathlib.Core.Path.{◌≡◌, refl, sym, ap, ap₂}
use mathlib.Core.Bool.{Bool, true, false}
use mathlib.Core.List.{List, [], ◌∷◌, map}
use Prim.Native.Nat.{ℕ, zero, suc, ◌≤◌, ◌<◌, min}
use native.Mathlib.Omega.{arith}
use borrow.Author.Tests.{le-leb, leb-true, eqb-true}
use lib.ListN.{length}
use Rattle.changes.specs.Lists.{All}
use Rattle.layout.specs.Clauses.{is_slot}
use Rattle.layout.specs.Tests.{least}
use Rattle.views.specs.View.{Slot, closed, holding, least_slot, open_of, issued_of, slots_of, NotAbove}

-- a list of slots in a head, and back
pub slots_again : (ss : List Slot) → slots_of (map open_of ss) (map issued_of ss) ≡ ss
unfolding slots_of
slots_again [] = refl
slots_again (closed ∷ ss) = ap (λ (l : List Slot). closed ∷ l) (slots_again ss)
slots_again (holding n ∷ ss) = ap (λ (l : List Slot). holding n ∷ l) (slots_again ss)

pub least_slots : (c : ℕ) (ss : List Slot) → least c (map open_of ss) (map issued_of ss) ≡ least_slot c ss
unfolding least least_slot
least_slots c [] = refl
least_slots c (closed ∷ ss) = least_slots c ss
least_slots c (holding n ∷ ss) = ap (min n) (least_slots c ss)

pub slots_pass : (c : ℕ) (ss : List Slot) → All (NotAbove c) ss → (k : ℕ) → k < length ss
    → is_slot c (map open_of ss) (map issued_of ss) k ≡ true
unfolding All
slots_pass c [] a k h = absurd (omega arith)
slots_pass c (closed ∷ ss) a zero h = refl
slots_pass c (holding n ∷ ss) a zero h = le-leb n c a.0
slots_pass c (closed ∷ ss) a (suc k) h = slots_pass c ss a.1 k (omega arith)
slots_pass c (holding n ∷ ss) a (suc k) h = slots_pass c ss a.1 k (omega arith)

-- taken and numbers that pass, as a list of slots, and back
module _ (c : ℕ) where
  pub taken_again : (taken : List Bool) (numbers : List ℕ) → map open_of (slots_of taken numbers) ≡ taken
  unfolding slots_of
  taken_again [] numbers = refl
  taken_again (true ∷ taken) [] = ap (λ (l : List Bool). true ∷ l) (taken_again taken [])
  taken_again (false ∷ taken) [] = ap (λ (l : List Bool). false ∷ l) (taken_again taken [])
  taken_again (true ∷ taken) (n ∷ numbers) = ap (λ (l : List Bool). true ∷ l) (taken_again taken numbers)
  taken_again (false ∷ taken) (n ∷ numbers) = ap (λ (l : List Bool). false ∷ l) (taken_again taken numbers)

  pub numbers_again : (taken : List Bool) (numbers : List ℕ) → length taken ≡ length numbers
      → ((k : ℕ) → k < length taken → is_slot c taken numbers k ≡ true) → map issued_of (slots_of taken numbers) ≡ numbers
  unfolding slots_of
  numbers_again [] [] e t = refl
  numbers_again [] (n ∷ numbers) e t = absurd (omega arith)
  numbers_again (m ∷ taken) [] e t = absurd (omega arith)
  numbers_again (true ∷ taken) (n ∷ numbers) e t =
      ap (λ (l : List ℕ). n ∷ l) (numbers_again taken numbers (omega arith) (λ k h. t (suc k) (omega arith)))
  numbers_again (false ∷ taken) (n ∷ numbers) e t =
      ap₂ ◌∷◌ (sym (eqb-true n 0 (t 0 (omega arith)))) (numbers_again taken numbers (omega arith) (λ k h. t (suc k) (omega arith)))

  pub least_again : (taken : List Bool) (numbers : List ℕ) → length taken ≡ length numbers → least c taken numbers
      ≡ least_slot c (slots_of taken numbers)
  unfolding least least_slot slots_of
  least_again [] numbers e = refl
  least_again (m ∷ taken) [] e = absurd (omega arith)
  least_again (true ∷ taken) (n ∷ numbers) e = ap (min n) (least_again taken numbers (omega arith))
  least_again (false ∷ taken) (n ∷ numbers) e = least_again taken numbers (omega arith)

  pub slots_below : (taken : List Bool) (numbers : List ℕ) → length taken ≡ length numbers
      → ((k : ℕ) → k < length taken → is_slot c taken numbers k ≡ true) → All (NotAbove c) (slots_of taken numbers)
  unfolding slots_of All
  slots_below [] numbers e t = tt
  slots_below (m ∷ taken) [] e t = absurd (omega arith)
  slots_below (true ∷ taken) (n ∷ numbers) e t =
      (leb-true n c (t 0 (omega arith)), slots_below taken numbers (omega arith) (λ k h. t (suc k) (omega arith)))
  slots_below (false ∷ taken) (n ∷ numbers) e t = (tt, slots_below taken numbers (omega arith) (λ k h. t (suc k) (omega arith)))

pub slots_length : (taken : List Bool) (numbers : List ℕ) → length (slots_of taken numbers) ≡ length taken
unfolding slots_of
slots_length [] numbers = refl
slots_length (m ∷ taken) [] = ap suc (slots_length taken [])
slots_length (m ∷ taken) (n ∷ numbers) = ap suc (slots_length taken numbers)

-- the least is at most the checkpoint
pub least_most : (c : ℕ) (ss : List Slot) → least_slot c ss ≤ c
unfolding least_slot
least_most c [] = omega arith
least_most c (closed ∷ ss) = least_most c ss
least_most c (holding n ∷ ss) = omega (arith, least_most c ss)

-- the same of the numbers in a head
pub least_up_to : (c : ℕ) (taken : List Bool) (numbers : List ℕ) → least c taken numbers ≤ c
unfolding least
least_up_to c [] numbers = omega arith
least_up_to c (m ∷ taken) [] = omega arith
least_up_to c (true ∷ taken) (n ∷ numbers) = omega (arith, least_up_to c taken numbers)
least_up_to c (false ∷ taken) (n ∷ numbers) = least_up_to c taken numbers

-- with a later checkpoint the least is no lower, and no open slot lies above it
pub least_later : (c d : ℕ) (taken : List Bool) (numbers : List ℕ) → c ≤ d → least c taken numbers ≤ least d taken numbers
unfolding least
least_later c d [] numbers h = h
least_later c d (m ∷ taken) [] h = h
least_later c d (true ∷ taken) (n ∷ numbers) h = omega (arith, least_later c d taken numbers h)
least_later c d (false ∷ taken) (n ∷ numbers) h = least_later c d taken numbers h

pub below_later : (c d : ℕ) (ss : List Slot) → c ≤ d → All (NotAbove c) ss → All (NotAbove d) ss
unfolding All
below_later c d [] h a = tt
below_later c d (closed ∷ ss) h a = (tt, below_later c d ss h a.1)
below_later c d (holding n ∷ ss) h a =
    let first : n ≤ c = a.0 in
    (omega arith, below_later c d ss h a.1)
