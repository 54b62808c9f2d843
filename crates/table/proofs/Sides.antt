-- Where the word at a position lies, seen from a change: the two tests of the merge.
-- Assumes nothing.
use mathlib.Core.Bool.{Bool, true, false}
use mathlib.Core.Path.{◌≡◌, refl, sym, ap, ◌∙◌}
use mathlib.Core.List.{List}
use Prim.Native.Nat.{ℕ, ◌*◌, ◌^◌, ◌≤◌, ◌<◌}
use native.Mathlib.Omega.{arith}
use borrow.Author.Tests.{lt-ltb, le-ltb, eq-eqb, ne_eqb}
use lib.Dec.{ltb, eqb}
use lib.ListN.{length, drop, get_or}
use Rattle.entry.specs.Word.{offer_of}
use Rattle.std.specs.declared.cmp.Ordering.{Ordering}
use Rattle.std.specs.declared.cmp.Ordering.TheVariants.{Less, Equal, Greater}
use Rattle.changes.specs.Calculus.{side_of, by_side}
use Rattle.changes.proofs.Merging.{Lies, lower, equal, higher, lies, side_below, side_same, side_above}
use Rattle.composing.proofs.Positions.{side_past, side_here}

-- whether there is a word at a position, and its offer lies below
abbrev pub below : Ordering → Bool
below s = by_side {A = Bool} s true false false

-- whether there is a word at a position with a word's offer
abbrev pub found : Ordering → Bool
found s = by_side {A = Bool} s false true false

module _ (l : List ℕ) (i w : ℕ) where
  pub none_below : length l ≤ i → below (side_of (drop i l) w) ≡ false
  none_below h = ap below (side_past l i w h)

  pub none_found : length l ≤ i → found (side_of (drop i l) w) ≡ false
  none_found h = ap found (side_past l i w h)

  -- the offers at their place in the word
  module _ (h : i < length l) {a b : ℕ} (ea : a ≡ offer_of (get_or l i 0) * 2 ^ 32) (eb : b ≡ offer_of w * 2 ^ 32) where
    pub below_there : ltb a b ≡ below (side_of (drop i l) w)
    below_there = go (lies (offer_of (get_or l i 0)) (offer_of w))
      where
        go : Lies (offer_of (get_or l i 0)) (offer_of w) → ltb a b ≡ below (side_of (drop i l) w)
        go (lower e) = lt-ltb a b (omega arith) ∙ sym (ap below (side_here l i w h ∙ side_below _ _ e))
        go (equal e) = le-ltb a b (omega arith) ∙ sym (ap below (side_here l i w h ∙ side_same _ _ e))
        go (higher e) = le-ltb a b (omega arith) ∙ sym (ap below (side_here l i w h ∙ side_above _ _ e))

    pub found_there : eqb a b ≡ found (side_of (drop i l) w)
    found_there = go (lies (offer_of (get_or l i 0)) (offer_of w))
      where
        go : Lies (offer_of (get_or l i 0)) (offer_of w) → eqb a b ≡ found (side_of (drop i l) w)
        go (lower e) = ne_eqb a b (λ z. omega arith) ∙ sym (ap found (side_here l i w h ∙ side_below _ _ e))
        go (equal e) = eq-eqb a b (omega arith) ∙ sym (ap found (side_here l i w h ∙ side_same _ _ e))
        go (higher e) = ne_eqb a b (λ z. omega arith) ∙ sym (ap found (side_here l i w h ∙ side_above _ _ e))

pub is_below : (s : Ordering) (b : Bool) → b ≡ below s → b ≡ true → s ≡ Less
is_below Less b e t = refl
is_below Equal b e t = absurd (let z : ◌≡◌ {A = ℕ} 0 1 = cc in omega arith)
is_below Greater b e t = absurd (let z : ◌≡◌ {A = ℕ} 0 1 = cc in omega arith)
