-- The search for an offer: an equation for each clause, and what it gives by positions in words whose offers rise.
-- Assumes nothing.
use mathlib.Core.Path.{◌≡◌, refl, sym, ◌∙◌, ap}
use mathlib.Core.List.{List, [], ◌∷◌}
use Prim.Native.Nat.{ℕ, zero, suc, ◌+◌, ◌≤◌, ◌<◌}
use native.Mathlib.Decide.{ℕ_discrete}
use native.Mathlib.Omega.{arith}
use borrow.Author.Tests.{eq-eqb, ne_eqb}
use lib.ListN.{length, get_or}
use Rattle.entry.specs.Word.{offer_of}
use Rattle.std.proofs.Common.{Some, None}
use Rattle.changes.specs.Calculus.{find}
use Rattle.changes.specs.Lists.{From, All}

pub find_empty : (k : ℕ) → find k [] ≡ None
unfolding find
find_empty k = refl

pub find_head : (k w : ℕ) (l : List ℕ) → offer_of w ≡ k → find k (w ∷ l) ≡ Some w
unfolding find
find_head k w l e = rw (eq-eqb (offer_of w) k e)

pub find_past : (k w : ℕ) (l : List ℕ) → (offer_of w ≡ k → ⊥) → find k (w ∷ l) ≡ find k l
unfolding find
find_past k w l n = rw (ne_eqb (offer_of w) k n)

-- what is found stands at the offer, and is one of the words
pub found_offer : (k : ℕ) (l : List ℕ) (w : ℕ) → find k l ≡ Some w → offer_of w ≡ k
found_offer k [] w e = absurd (let z : ◌≡◌ {A = ℕ} 0 1 = cc (find_empty k) in omega arith)
found_offer k (v ∷ l) w e = go (found_offer k l w) (ℕ_discrete (offer_of v) k)
  where
    go : (find k l ≡ Some w → offer_of w ≡ k) → Dec (offer_of v ≡ k) → offer_of w ≡ k
    go i (yes o) =
        let same : v ≡ w = cc (find_head k v l o) in
        rw (← same) o
    go i (no o) = i (sym (find_past k v l o) ∙ e)

pub found_all : (Q : ℕ → Type 0) (k : ℕ) (l : List ℕ) → All Q l → (w : ℕ) → find k l ≡ Some w → Q w
unfolding All
found_all Q k [] f w e = absurd (let z : ◌≡◌ {A = ℕ} 0 1 = cc (find_empty k) in omega arith)
found_all Q k (v ∷ l) f w e = go (found_all Q k l f.1 w) (ℕ_discrete (offer_of v) k)
  where
    go : (find k l ≡ Some w → Q w) → Dec (offer_of v ≡ k) → Q w
    go i (yes o) =
        let same : v ≡ w = cc (find_head k v l o) in
        rw (← same) f.0
    go i (no o) = i (sym (find_past k v l o) ∙ e)

-- nothing below the least offer is found
pub find_none : (k n : ℕ) (l : List ℕ) → From n l → k < n → find k l ≡ None
unfolding From
find_none k n [] f h = find_empty k
find_none k n (w ∷ l) f h =
    let least : n ≤ offer_of w = f.0 in
    find_past k w l (λ e. omega arith) ∙ find_none k (offer_of w + 1) l f.1 (omega arith)

-- nothing is found where no word has the offer
pub find_nowhere : (k : ℕ) (l : List ℕ) → ((i : ℕ) → i < length l → offer_of (get_or l i 0) ≡ k → ⊥) → find k l ≡ None
find_nowhere k [] h = find_empty k
find_nowhere k (w ∷ l) h =
    find_past k w l (h 0 (omega arith)) ∙ find_nowhere k l (λ i b. h (suc i) (omega arith))

-- each offer of rising words is at least the first bound
pub least_at : (n : ℕ) (l : List ℕ) → From n l → (i : ℕ) → i < length l → n ≤ offer_of (get_or l i 0)
unfolding From
least_at n [] f i b = absurd (omega arith)
least_at n (w ∷ l) f zero b = f.0
least_at n (w ∷ l) f (suc i) b =
    let least : n ≤ offer_of w = f.0 in
    let there : offer_of w + 1 ≤ offer_of (get_or l i 0) = least_at (offer_of w + 1) l f.1 i (omega arith) in
    omega arith

-- offers rise with the positions
pub rises_at : (n : ℕ) (l : List ℕ) → From n l → (i j : ℕ) → i < j → j < length l → offer_of (get_or l i 0) < offer_of (get_or l j 0)
unfolding From
rises_at n [] f i j h b = absurd (omega arith)
rises_at n (w ∷ l) f i zero h b = absurd (omega arith)
rises_at n (w ∷ l) f zero (suc j) h b =
    let there : offer_of w + 1 ≤ offer_of (get_or l j 0) = least_at (offer_of w + 1) l f.1 j (omega arith) in
    omega arith
rises_at n (w ∷ l) f (suc i) (suc j) h b = rises_at (offer_of w + 1) l f.1 i j (omega arith) (omega arith)

-- and do not fall
pub not_below_at : (n : ℕ) (l : List ℕ) → From n l → (i j : ℕ) → i ≤ j → j < length l → offer_of (get_or l i 0) ≤ offer_of (get_or l j 0)
not_below_at n l f i j h b = go (ℕ_discrete i j)
  where
    go : Dec (i ≡ j) → offer_of (get_or l i 0) ≤ offer_of (get_or l j 0)
    go (yes e) = rw e (omega arith)
    go (no ne) = omega (arith, rises_at n l f i j (omega arith) b)

-- the word at a position is what is found at its offer
pub find_at : (n : ℕ) (l : List ℕ) → From n l → (i : ℕ) → i < length l → find (offer_of (get_or l i 0)) l ≡ Some (get_or l i 0)
unfolding From
find_at n [] f i b = absurd (omega arith)
find_at n (w ∷ l) f zero b = find_head (offer_of w) w l refl
find_at n (w ∷ l) f (suc i) b =
    let there : offer_of w + 1 ≤ offer_of (get_or l i 0) = least_at (offer_of w + 1) l f.1 i (omega arith) in
    find_past (offer_of (get_or l i 0)) w l (λ e. omega arith) ∙ find_at (offer_of w + 1) l f.1 i (omega arith)

pub found_at : (l : List ℕ) → From 0 l → (i : ℕ) → i < length l → (k : ℕ) → offer_of (get_or l i 0) ≡ k → find k l ≡ Some (get_or l i 0)
found_at l f i b k e = ap (λ (n : ℕ). find n l) (sym e) ∙ find_at 0 l f i b
