-- The merge of two lists: an equation for each case of each definition, and one induction for all of them.
-- Assumes nothing.
use mathlib.Core.Path.{◌≡◌, refl}
use mathlib.Core.List.{List, [], ◌∷◌}
use Prim.Native.Nat.{ℕ, ◌<◌}
use native.Mathlib.Decide.{dec_lt}
use native.Mathlib.Omega.{arith}
use borrow.Author.Tests.{lt-ltb, le-ltb, eq-eqb, ne_eqb}
use Rattle.entry.specs.Word.{kind_of, offer_of}
use Rattle.std.specs.declared.cmp.Ordering.TheVariants.{Less, Equal, Greater}
use Rattle.changes.specs.Calculus.{side, compose, puts}

-- where one number lies, seen from another
pub data Lies (m n : ℕ) : Type 0 where
  lower : m < n → Lies m n
  equal : m ≡ n → Lies m n
  higher : n < m → Lies m n

pub lies : (m n : ℕ) → Lies m n
lies m n = go (dec_lt m n) (dec_lt n m)
  where
    go : Dec (m < n) → Dec (n < m) → Lies m n
    go (yes l) d = lower l
    go (no l) (yes h) = higher h
    go (no l) (no h) = equal (omega arith)

pub side_below : (m n : ℕ) → m < n → side m n ≡ Less
side_below m n h = rw (lt-ltb m n h)

pub side_same : (m n : ℕ) → m ≡ n → side m n ≡ Equal
side_same m n e = rw (le-ltb m n (omega arith), le-ltb n m (omega arith))

pub side_above : (m n : ℕ) → n < m → side m n ≡ Greater
side_above m n h = rw (le-ltb m n (omega arith), lt-ltb n m h)

-- Something of two lists, from the ends of a merge and the three ways in which the heads lie.
pub merge_ind : (P : List ℕ → List ℕ → Type 0)
    → ((b : List ℕ) → P [] b)
    → ((v : ℕ) (a : List ℕ) → P (v ∷ a) [])
    → ((v w : ℕ) (a b : List ℕ) → offer_of v < offer_of w → P a (w ∷ b) → P (v ∷ a) (w ∷ b))
    → ((v w : ℕ) (a b : List ℕ) → offer_of v ≡ offer_of w → P a b → P (v ∷ a) (w ∷ b))
    → ((v w : ℕ) (a b : List ℕ) → offer_of w < offer_of v → P (v ∷ a) b → P (v ∷ a) (w ∷ b))
    → (a b : List ℕ) → P a b
merge_ind P p q x y z [] b = p b
merge_ind P p q x y z (v ∷ a) [] = q v a
merge_ind P p q x y z (v ∷ a) (w ∷ b) =
    go (merge_ind P p q x y z a (w ∷ b)) (merge_ind P p q x y z a b) (merge_ind P p q x y z (v ∷ a) b) (lies (offer_of v) (offer_of w))
  where
    go : P a (w ∷ b) → P a b → P (v ∷ a) b → Lies (offer_of v) (offer_of w) → P (v ∷ a) (w ∷ b)
    go s t u (lower h) = x v w a b h s
    go s t u (equal e) = y v w a b e t
    go s t u (higher h) = z v w a b h u

-- composition
pub compose-nil : (a : List ℕ) → compose a [] ≡ a
unfolding compose
compose-nil [] = refl
compose-nil (v ∷ a) = refl

pub nil-compose : (b : List ℕ) → compose [] b ≡ b
unfolding compose
nil-compose b = refl

module _ (v w : ℕ) (a b : List ℕ) where
  pub compose_below : offer_of v < offer_of w → compose (v ∷ a) (w ∷ b) ≡ v ∷ compose a (w ∷ b)
  unfolding compose
  compose_below h = rw (side_below (offer_of v) (offer_of w) h)

  pub compose_same : offer_of v ≡ offer_of w → compose (v ∷ a) (w ∷ b) ≡ w ∷ compose a b
  unfolding compose
  compose_same e = rw (side_same (offer_of v) (offer_of w) e)

  pub compose_above : offer_of w < offer_of v → compose (v ∷ a) (w ∷ b) ≡ w ∷ compose (v ∷ a) b
  unfolding compose
  compose_above h = rw (side_above (offer_of v) (offer_of w) h)

-- the words of kind 1
pub puts-nil : puts [] ≡ []
unfolding puts
puts-nil = refl

module _ (w : ℕ) (l : List ℕ) where
  pub puts_put : kind_of w ≡ 1 → puts (w ∷ l) ≡ w ∷ puts l
  unfolding puts
  puts_put e = rw (eq-eqb (kind_of w) 1 e)

  pub puts_other : (kind_of w ≡ 1 → ⊥) → puts (w ∷ l) ≡ puts l
  unfolding puts
  puts_other n = rw (ne_eqb (kind_of w) 1 n)
