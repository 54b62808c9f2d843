-- Rising lists: what composition and application keep of them, and that a rising list is what is found in it.
-- Assumes nothing.
use mathlib.Core.Path.{◌≡◌, refl, sym, ap, ◌∙◌}
use mathlib.Core.List.{List, [], ◌∷◌}
use Prim.Native.Nat.{ℕ, ◌+◌, ◌≤◌}
use native.Mathlib.Decide.{ℕ_discrete}
use native.Mathlib.Omega.{arith}
use lib.ListN.{length}
use Rattle.entry.specs.Word.{kind_of, offer_of, Put}
use Rattle.changes.specs.Calculus.{find, compose, puts}
use Rattle.changes.specs.Lists.{From, All}
use Rattle.changes.proofs.Find.{find_empty, find_head, find_past, find_none}
use Rattle.changes.proofs.Merging.{Lies, lower, equal, higher, lies, merge_ind, compose-nil, nil-compose, compose_below}
use Rattle.changes.proofs.Merging.{compose_same, compose_above, puts-nil, puts_put, puts_other}

pub From-lower : {m n : ℕ} (l : List ℕ) → m ≤ n → From n l → From m l
unfolding From
From-lower [] h f = tt
From-lower (w ∷ l) h f = (omega (arith, f.0), f.1)

-- the first word of a rising list is as low as its bound, and the others rise behind it
pub from_cons : (n w : ℕ) (l : List ℕ) → n ≤ offer_of w → From (offer_of w + 1) l → From n (w ∷ l)
unfolding From
from_cons n w l h f = (h, f)

pub From-head : (n w : ℕ) (l : List ℕ) → From n (w ∷ l) → n ≤ offer_of w
unfolding From
From-head n w l f = f.0

pub from_tail : (n w : ℕ) (l : List ℕ) → From n (w ∷ l) → From (offer_of w + 1) l
unfolding From
from_tail n w l f = f.1

pub From-nil : (n : ℕ) → From n []
unfolding From
From-nil n = tt

pub compose_rises : (a b : List ℕ) (n : ℕ) → From n a → From n b → From n (compose a b)
compose_rises =
    merge_ind (λ a b. (n : ℕ) → From n a → From n b → From n (compose a b))
    (λ b n f g. rw nil-compose g)
    (λ v a n f g. rw compose-nil f)
    (λ v w a b h i n f g. rw (compose_below v w a b h)
    (from_cons n v _ (From-head n v a f) (i (offer_of v + 1) (from_tail n v a f) (from_cons _ w b (omega arith) (from_tail n w b g)))))
    (λ v w a b e i n f g. rw (compose_same v w a b e)
    (from_cons n w _ (From-head n w b g) (i (offer_of w + 1) (rw e at (from_tail n v a f)) (from_tail n w b g))))
    (λ v w a b h i n f g. rw (compose_above v w a b h)
    (from_cons n w _ (From-head n w b g) (i (offer_of w + 1) (from_cons _ v a (omega arith) (from_tail n v a f)) (from_tail n w b g))))

pub puts_rises : (l : List ℕ) (n : ℕ) → From n l → From n (puts l)
puts_rises [] n f = rw puts-nil f
puts_rises (w ∷ l) n f = go (ℕ_discrete (kind_of w) 1) (puts_rises l (offer_of w + 1) (from_tail n w l f))
  where
    go : Dec (kind_of w ≡ 1) → From (offer_of w + 1) (puts l) → From n (puts (w ∷ l))
    go (yes e) g = rw (puts_put w l e) (from_cons n w _ (From-head n w l f) g)
    go (no e) g = rw (puts_other w l e) (From-lower _ (omega (arith, From-head n w l f)) g)

-- what holds of each word of two lists holds of each word of their composition
module _ (Q : ℕ → Type 0) where
  pub all_cons : (w : ℕ) (l : List ℕ) → Q w → All Q l → All Q (w ∷ l)
  unfolding All
  all_cons w l q r = (q, r)

  pub all_head : (w : ℕ) (l : List ℕ) → All Q (w ∷ l) → Q w
  unfolding All
  all_head w l r = r.0

  pub all_tail : (w : ℕ) (l : List ℕ) → All Q (w ∷ l) → All Q l
  unfolding All
  all_tail w l r = r.1

  pub compose-All : (a b : List ℕ) → All Q a → All Q b → All Q (compose a b)
  compose-All =
      merge_ind (λ a b. All Q a → All Q b → All Q (compose a b))
      (λ b f g. rw nil-compose g)
      (λ v a f g. rw compose-nil f)
      (λ v w a b h i f g. rw (compose_below v w a b h) (all_cons v _ (all_head v a f) (i (all_tail v a f) g)))
      (λ v w a b e i f g. rw (compose_same v w a b e) (all_cons w _ (all_head w b g) (i (all_tail v a f) (all_tail w b g))))
      (λ v w a b h i f g. rw (compose_above v w a b h) (all_cons w _ (all_head w b g) (i f (all_tail w b g))))

pub puts-All : (l : List ℕ) → All Put (puts l)
unfolding All puts
puts-All [] = tt
puts-All (w ∷ l) = go (ℕ_discrete (kind_of w) 1) (puts-All l)
  where
    go : Dec (kind_of w ≡ 1) → All Put (puts l) → All Put (puts (w ∷ l))
    go (yes e) g = rw (puts_put w l e) (e, g)
    go (no e) g = rw (puts_other w l e) g

-- words that all put are left as they are
pub puts_of-puts : (l : List ℕ) → All Put l → puts l ≡ l
unfolding All
puts_of-puts [] f = puts-nil
puts_of-puts (w ∷ l) f = puts_put w l f.0 ∙ ap (λ (r : List ℕ). w ∷ r) (puts_of-puts l f.1)

-- lengths
pub compose-length : (a b : List ℕ) → length (compose a b) ≤ length a + length b
compose-length =
    merge_ind (λ a b. length (compose a b) ≤ length a + length b)
    (λ b. rw nil-compose (omega arith))
    (λ v a. rw compose-nil (omega arith))
    (λ v w a b h i. rw (compose_below v w a b h) (omega arith))
    (λ v w a b e i. rw (compose_same v w a b e) (omega arith))
    (λ v w a b h i. rw (compose_above v w a b h) (omega arith))

pub puts-length : (l : List ℕ) → length (puts l) ≤ length l
puts-length [] = rw puts-nil (omega arith)
puts-length (w ∷ l) = go (ℕ_discrete (kind_of w) 1) (puts-length l)
  where
    go : Dec (kind_of w ≡ 1) → length (puts l) ≤ length l → length (puts (w ∷ l)) ≤ length (w ∷ l)
    go (yes e) g = rw (puts_put w l e) (omega arith)
    go (no e) g = rw (puts_other w l e) (omega arith)

-- two rising lists in which the same is found at every offer are one list
pub rising_ext : (n : ℕ) (a b : List ℕ) → From n a → From n b → ((k : ℕ) → find k a ≡ find k b) → a ≡ b
rising_ext n [] [] f g h = refl
rising_ext n [] (w ∷ b) f g h =
    absurd (let z : ◌≡◌ {A = ℕ} 0 1 = cc (h (offer_of w), find_empty (offer_of w), find_head (offer_of w) w b refl) in omega arith)
rising_ext n (v ∷ a) [] f g h =
    absurd (let z : ◌≡◌ {A = ℕ} 0 1 = cc (h (offer_of v), find_empty (offer_of v), find_head (offer_of v) v a refl) in omega arith)
rising_ext n (v ∷ a) (w ∷ b) f g h = go (λ m f g h. rising_ext m a b f g h) (lies (offer_of v) (offer_of w))
  where
    tails : (k : ℕ) → offer_of v ≡ offer_of w → find k a ≡ find k b
    tails k e = at (ℕ_discrete (offer_of v) k)
      where
        at : Dec (offer_of v ≡ k) → find k a ≡ find k b
        at (yes i) =
            find_none k (offer_of v + 1) a (from_tail n v a f) (omega arith)
            ∙ sym (find_none k (offer_of w + 1) b (from_tail n w b g) (omega arith))
        at (no i) = sym (find_past k v a i) ∙ h k ∙ find_past k w b (λ j. i (omega arith))

    go : ((m : ℕ) → From m a → From m b → ((k : ℕ) → find k a ≡ find k b) → a ≡ b) → Lies (offer_of v) (offer_of w) → v ∷ a ≡ w ∷ b
    go i (lower l) =
        absurd (let z : ◌≡◌ {A = ℕ} 0 1 = cc (
          h (offer_of v),
          find_head (offer_of v) v a refl,
          find_none (offer_of v) (offer_of w) (w ∷ b)
              (from_cons _ w b (omega arith) (from_tail n w b g)) l,
        ) in omega arith)
    go i (equal e) =
        let first : v ≡ w = cc (h (offer_of v), find_head (offer_of v) v a refl, find_head (offer_of v) w b (omega arith)) in
        let rest : a ≡ b = i (offer_of v + 1) (from_tail n v a f) (rw (← e) at (from_tail n w b g)) (λ k. tails k e) in
        cc
    go i (higher l) =
        absurd (let z : ◌≡◌ {A = ℕ} 0 1 = cc (
          h (offer_of w),
          find_head (offer_of w) w b refl,
          find_none (offer_of w) (offer_of v) (v ∷ a)
              (from_cons _ v a (omega arith) (from_tail n v a f)) l,
        ) in omega arith)
