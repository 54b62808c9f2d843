-- The merge as loops meet it: at positions of two slices, by the side on which the word of the first lies.
-- Assumes nothing.
use mathlib.Core.Path.{◌≡◌, sym, subst, ◌∙◌}
use mathlib.Core.List.{List, ◌∷◌}
use Prim.Native.Nat.{ℕ, ◌+◌, ◌≤◌, ◌<◌}
use native.Mathlib.Decide.{dec_lt}
use native.Mathlib.Omega.{arith}
use lib.ListN.{length, drop, get_or, drop_of_length-le}
use Rattle.entry.specs.Word.{offer_of}
use Rattle.std.specs.declared.cmp.Ordering.{Ordering}
use Rattle.std.specs.declared.cmp.Ordering.TheVariants.{Less, Equal, Greater}
use Rattle.changes.specs.Calculus.{side, side_of, compose}
use Rattle.changes.proofs.Merging.{Lies, lower, equal, higher, lies, side_below, side_same, side_above}
use Rattle.changes.proofs.Merging.{compose_below, compose_same, compose_above}
use Rattle.words.proofs.Parts.{next}

-- what a side says of two numbers
abbrev Sided : ℕ → ℕ → Ordering → Type 0
Sided m n Less = m < n
Sided m n Equal = m ≡ n
Sided m n Greater = n < m

sided : (m n : ℕ) → Sided m n (side m n)
sided m n = go (lies m n)
  where
    go : Lies m n → Sided m n (side m n)
    go (lower h) = rw (side_below m n h) h
    go (equal h) = rw (side_same m n h) h
    go (higher h) = rw (side_above m n h) h

module _ (l : List ℕ) (i w : ℕ) where
  pub side_past : length l ≤ i → side_of (drop i l) w ≡ Greater
  unfolding side_of
  side_past h = rw (drop_of_length-le l h)

  pub side_here : i < length l → side_of (drop i l) w ≡ side (offer_of (get_or l i 0)) (offer_of w)
  unfolding side_of
  side_here h = rw (next l i h)

  -- a word that lies below or at another is there
  there : (s : Ordering) → side_of (drop i l) w ≡ s → (s ≡ Greater → ⊥) → (i < length l) × Sided (offer_of (get_or l i 0)) (offer_of w) s
  there s e n = go (dec_lt i (length l))
    where
      go : Dec (i < length l) → (i < length l) × Sided (offer_of (get_or l i 0)) (offer_of w) s
      go (yes h) =
          (h, subst (Sided (offer_of (get_or l i 0)) (offer_of w)) (sym (side_here h) ∙ e) (sided (offer_of (get_or l i 0)) (offer_of w)))
      go (no h) = absurd (n (sym e ∙ side_past (omega arith)))

  pub below_there : side_of (drop i l) w ≡ Less → (i < length l) × (offer_of (get_or l i 0) < offer_of w)
  below_there e = there Less e (λ z. let y : ◌≡◌ {A = ℕ} 0 1 = cc in omega arith)

  pub same_there : side_of (drop i l) w ≡ Equal → (i < length l) × (offer_of (get_or l i 0) ≡ offer_of w)
  same_there e = there Equal e (λ z. let y : ◌≡◌ {A = ℕ} 0 1 = cc in omega arith)

-- where no word of the first list lies below or at the head of the second
pub passed : (w v : ℕ) (a : List ℕ) → side_of (v ∷ a) w ≡ Greater → offer_of w < offer_of v
unfolding side_of
passed w v a e = subst (Sided (offer_of v) (offer_of w)) e (sided (offer_of v) (offer_of w))

-- at positions of two slices
module _ (a b : List ℕ) (i j : ℕ) (g : i < length a) (h : j < length b) where
  pub compose_at_below : offer_of (get_or a i 0) < offer_of (get_or b j 0) → compose (drop i a) (drop j b) ≡ get_or a i 0
      ∷ compose (drop (i + 1) a) (drop j b)
  compose_at_below e = rw (next a i g, next b j h) (compose_below (get_or a i 0) (get_or b j 0) (drop (i + 1) a) (drop (j + 1) b) e)

  pub compose_at_same : offer_of (get_or a i 0) ≡ offer_of (get_or b j 0) → compose (drop i a) (drop j b) ≡ get_or b j 0
      ∷ compose (drop (i + 1) a) (drop (j + 1) b)
  compose_at_same e = rw (next a i g, next b j h) (compose_same (get_or a i 0) (get_or b j 0) (drop (i + 1) a) (drop (j + 1) b) e)

  pub compose_at_above : offer_of (get_or b j 0) < offer_of (get_or a i 0) → compose (drop i a) (drop j b) ≡ get_or b j 0
      ∷ compose (drop i a) (drop (j + 1) b)
  compose_at_above e = rw (next a i g, next b j h) (compose_above (get_or a i 0) (get_or b j 0) (drop (i + 1) a) (drop (j + 1) b) e)
