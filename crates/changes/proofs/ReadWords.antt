-- A read set, word by word: one change applied to it replaces the word at its offer and touches no other, and at each of its offers
-- it shows what its map has.
-- Assumes nothing.
use mathlib.Core.Path.{◌≡◌, refl, sym, ◌∙◌, ap, ap₂}
use mathlib.Core.List.{List, [], ◌∷◌}
use Prim.Native.Nat.{ℕ, zero, suc, ◌+◌, ◌≤◌, ◌<◌}
use native.Mathlib.Decide.{ℕ_discrete}
use native.Mathlib.Omega.{arith}
use lib.ListN.{length, get_or, set}
use lib.Seq.{ext_get_or}
use borrow.Author.Tests.{eq-eqb, ne_eqb}
use Rattle.entry.specs.Word.{kind_of, offer_of, none_of, Valid}
use Rattle.entry.proofs.Laws.{none_word}
use Rattle.changes.specs.Found.{Found}
use Rattle.std.proofs.Common.{Some}
use Rattle.changes.specs.Calculus.{find, if_put, puts}
use Rattle.changes.specs.Lists.{From, All, Changes, Map}
use Rattle.changes.specs.ReadSets.{found_or, read_of, over}
use Rattle.changes.proofs.Find.{find_empty, find_head, find_past, find_at, least_at}
use Rattle.changes.proofs.Applying.{find-puts}
use Rattle.changes.proofs.Reading.{read_offers, read_length}
use Rattle.changes.proofs.Rising.{from_tail, puts_rises, puts-All}

pub over_none_left : (d : List ℕ) → over [] d ≡ []
unfolding over
over_none_left d = refl

pub over-cons : (w : ℕ) (rs d : List ℕ) → over (w ∷ rs) d ≡ found_or (find (offer_of w) d) w ∷ over rs d
unfolding over
over-cons w rs d = refl

module _ (v w : ℕ) where
  hit : offer_of v ≡ offer_of w → found_or (find (offer_of v) (w ∷ [])) v ≡ w
  hit e = ap (λ (f : Found). found_or f v) (find_head (offer_of v) w [] (cc))

  miss : (offer_of w ≡ offer_of v → ⊥) → found_or (find (offer_of v) (w ∷ [])) v ≡ v
  miss n = ap (λ (f : Found). found_or f v) (find_past (offer_of v) w [] n ∙ find_empty (offer_of v))

-- a change below all offers of the read set
pub over_below : (n : ℕ) (rs : List ℕ) → From n rs → (w : ℕ) → offer_of w < n → over rs (w ∷ []) ≡ rs
unfolding From
over_below n [] f w h = over_none_left (w ∷ [])
over_below n (v ∷ rs) f w h =
    let least : n ≤ offer_of v = f.0 in
    over-cons v rs (w ∷ []) ∙ ap₂ ◌∷◌ (miss v w (λ e. omega arith)) (over_below (offer_of v + 1) rs f.1 w (omega arith))

-- a change at the offer of a position
pub over_at : (n : ℕ) (rs : List ℕ) → From n rs → (i : ℕ) → i < length rs → (w : ℕ) → offer_of w ≡ offer_of (get_or rs i 0)
    → over rs (w ∷ []) ≡ set rs i w
over_at n [] f i b w e = absurd (omega arith)
over_at n (v ∷ rs) f zero b w e =
    over-cons v rs (w ∷ []) ∙ ap₂ ◌∷◌ (hit v w (cc)) (over_below (offer_of v + 1) rs (from_tail n v rs f) w (omega arith))
over_at n (v ∷ rs) f (suc i) b w e =
    let there : offer_of v + 1 ≤ offer_of (get_or rs i 0) = least_at (offer_of v + 1) rs (from_tail n v rs f) i (omega arith) in
    over-cons v rs (w ∷ [])
    ∙ ap₂ ◌∷◌ (miss v w (λ z. omega arith)) (over_at (offer_of v + 1) rs (from_tail n v rs f) i (omega arith) w e)

-- what is found in the read set of a map at one of its offers
shown_offer : (m : List ℕ) (w : ℕ) → offer_of (found_or (find (offer_of w) m) (none_of (offer_of w))) ≡ offer_of w
unfolding read_of
shown_offer m w = let e = read_offers m (w ∷ []) in cc

pub find_read : (k : ℕ) (m ws : List ℕ) (v : ℕ) → find k ws ≡ Some v → find k (read_of m ws) ≡ Some (found_or (find k m) (none_of k))
unfolding read_of
find_read k m [] v e = absurd (let z : ◌≡◌ {A = ℕ} 0 1 = cc (find_empty k) in omega arith)
find_read k m (w ∷ ws) v e = go (find_read k m ws v) (ℕ_discrete (offer_of w) k)
  where
    go : (find k ws ≡ Some v → find k (read_of m ws) ≡ Some (found_or (find k m) (none_of k))) → Dec (offer_of w ≡ k)
        → find k (read_of m (w ∷ ws)) ≡ Some (found_or (find k m) (none_of k))
    go i (yes o) =
        find_head k _ (read_of m ws) (shown_offer m w ∙ o) ∙ ap (λ (n : ℕ). Some (found_or (find n m) (none_of n))) o
    go i (no o) =
        find_past k _ (read_of m ws) (λ z. o (sym (shown_offer m w) ∙ z)) ∙ i (sym (find_past k w ws o) ∙ e)

-- A read set is what the map of its prices shows.
pub prices_Map : (l : List ℕ) → From 0 l → Map (puts l)
prices_Map l f = record { rises = puts_rises l 0 f; puts = puts-All l }

read_at : (m ws : List ℕ) (i : ℕ) → i < length ws → get_or (read_of m ws) i 0
    ≡ found_or (find (offer_of (get_or ws i 0)) m) (none_of (offer_of (get_or ws i 0)))
unfolding read_of
read_at m [] i b = absurd (omega arith)
read_at m (w ∷ ws) zero b = refl
read_at m (w ∷ ws) (suc i) b = read_at m ws i (omega arith)

Valid-at : (ws : List ℕ) → All Valid ws → (i : ℕ) → i < length ws → Valid (get_or ws i 0)
unfolding All
Valid-at [] h i b = absurd (omega arith)
Valid-at (w ∷ ws) h zero b = h.0
Valid-at (w ∷ ws) h (suc i) b = Valid-at ws h.1 i (omega arith)

or_none : (w : ℕ) → Valid w → found_or (if_put (Some w)) (none_of (offer_of w)) ≡ w
or_none w v = go (ℕ_discrete (kind_of w) 1)
  where
    go : Dec (kind_of w ≡ 1) → found_or (if_put (Some w)) (none_of (offer_of w)) ≡ w
    go (yes e) = rw (eq-eqb (kind_of w) 1 e)
    go (no n) =
        let removes : kind_of w ≡ 0 = omega (arith, v.0) in
        rw (ne_eqb (kind_of w) 1 n) (sym (none_word w removes (v.1 removes)))

pub prices_shown : (ws : List ℕ) → Changes ws → read_of (puts ws) ws ≡ ws
prices_shown ws h = ext_get_or 0 (read_of (puts ws) ws) ws (read_length (puts ws) ws) one
  where
    one : (i : ℕ) → i < length (read_of (puts ws) ws) → get_or (read_of (puts ws) ws) i 0 ≡ get_or ws i 0
    one i b =
        let inside : i < length ws = omega (arith, read_length (puts ws) ws) in
        read_at (puts ws) ws i inside
        ∙ ap (λ (f : Found). found_or f (none_of (offer_of (get_or ws i 0))))
        (find-puts (offer_of (get_or ws i 0)) 0 ws h.rises ∙ ap if_put (find_at 0 ws h.rises i inside))
        ∙ or_none (get_or ws i 0) (Valid-at ws h.valid i inside)
