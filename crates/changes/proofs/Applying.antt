-- What is found in a composition, among the puts and in a map after changes, and the laws of application that follow.
-- Assumes nothing.
use mathlib.Core.Path.{◌≡◌, refl, sym, ap, ◌∙◌}
use mathlib.Core.List.{List, [], ◌∷◌, ◌++◌}
use Prim.Native.Nat.{ℕ, ◌+◌, ◌≤◌, ◌<◌}
use native.Mathlib.Decide.{ℕ_discrete}
use native.Mathlib.Omega.{arith}
use borrow.Author.Tests.{eq-eqb, ne_eqb}
use lib.ListN.{length}
use Rattle.entry.specs.Word.{kind_of, offer_of, Put, Valid}
use Rattle.changes.specs.Found.{Found}
use Rattle.std.proofs.Common.{Some, None}
use Rattle.changes.specs.Calculus.{find, or_else, if_put, compose, puts, apply, compose_all, apply_all}
use Rattle.changes.specs.Lists.{From, All, Changes, Map}
use Rattle.changes.proofs.Compose.{compose_assoc}
use Rattle.changes.proofs.Find.{find_empty, find_head, find_past, find_none, found_all}
use Rattle.changes.proofs.Merging.{merge_ind, compose-nil, nil-compose, compose_below, compose_same, compose_above}
use Rattle.changes.proofs.Merging.{puts-nil, puts_put, puts_other}
use Rattle.changes.proofs.Rising.{from_cons, from_tail, From-nil, compose_rises, compose-All, puts_rises, puts-All}
use Rattle.changes.proofs.Rising.{puts_of-puts, puts-length, compose-length, rising_ext}

or_nothing : (f : Found) → or_else f None ≡ f
or_nothing (Some w) = refl
or_nothing None = refl

-- the later word wins for each offer
pub find-compose : (k : ℕ) (a b : List ℕ) → (n : ℕ) → From n b → find k (compose a b) ≡ or_else (find k b) (find k a)
find-compose k =
    merge_ind (λ a b. (n : ℕ) → From n b → find k (compose a b) ≡ or_else (find k b) (find k a))
    (λ b n g. rw (nil-compose, find_empty) (sym (or_nothing (find k b))))
    (λ v a n g. rw (compose-nil, find_empty k))
    (λ v w a b h i n g. rw (compose_below v w a b h) (first v w a b h (i n g) n g (ℕ_discrete (offer_of v) k)))
    (λ v w a b e i n g. rw (compose_same v w a b e) (both v w a b e (i (offer_of w + 1) (from_tail n w b g)) (ℕ_discrete (offer_of w) k)))
    (λ v w a b h i n g. rw (compose_above v w a b h) (second v w a b (i (offer_of w + 1) (from_tail n w b g)) (ℕ_discrete (offer_of w) k)))
  where
    first : (v w : ℕ) (a b : List ℕ) → offer_of v < offer_of w → find k (compose a (w ∷ b)) ≡ or_else (find k (w ∷ b)) (find k a)
        → (n : ℕ) → From n (w ∷ b) → Dec (offer_of v ≡ k) → find k (v ∷ compose a (w ∷ b)) ≡ or_else (find k (w ∷ b)) (find k (v ∷ a))
    first v w a b h i n g (yes e) =
        rw (
          find_head k v (compose a (w ∷ b)) e,
          find_head k v a e,
          find_none k (offer_of w) (w ∷ b)
              (from_cons _ w b (omega arith) (from_tail n w b g)) (omega arith),
        )
    first v w a b h i n g (no e) = rw (find_past k v (compose a (w ∷ b)) e, find_past k v a e) i

    both : (v w : ℕ) (a b : List ℕ) → offer_of v ≡ offer_of w → find k (compose a b) ≡ or_else (find k b) (find k a)
        → Dec (offer_of w ≡ k) → find k (w ∷ compose a b) ≡ or_else (find k (w ∷ b)) (find k (v ∷ a))
    both v w a b h i (yes e) = rw (find_head k w (compose a b) e, find_head k w b e)
    both v w a b h i (no e) = rw (find_past k w (compose a b) e, find_past k w b e, find_past k v a (λ j. e (omega arith))) i

    second : (v w : ℕ) (a b : List ℕ) → find k (compose (v ∷ a) b) ≡ or_else (find k b) (find k (v ∷ a))
        → Dec (offer_of w ≡ k) → find k (w ∷ compose (v ∷ a) b) ≡ or_else (find k (w ∷ b)) (find k (v ∷ a))
    second v w a b i (yes e) = rw (find_head k w (compose (v ∷ a) b) e, find_head k w b e)
    second v w a b i (no e) = rw (find_past k w (compose (v ∷ a) b) e, find_past k w b e) i

if_put_lem : (w : ℕ) → kind_of w ≡ 1 → if_put (Some w) ≡ Some w
if_put_lem w e = rw (eq-eqb (kind_of w) 1 e)

if_other : (w : ℕ) → (kind_of w ≡ 1 → ⊥) → if_put (Some w) ≡ None
if_other w n = rw (ne_eqb (kind_of w) 1 n)

-- of the puts of a rising list is found what puts
pub find-puts : (k n : ℕ) (l : List ℕ) → From n l → find k (puts l) ≡ if_put (find k l)
find-puts k n [] f = rw (puts-nil, find_empty)
find-puts k n (w ∷ l) f = go (ℕ_discrete (kind_of w) 1) (ℕ_discrete (offer_of w) k) (find-puts k (offer_of w + 1) l (from_tail n w l f))
  where
    go : Dec (kind_of w ≡ 1) → Dec (offer_of w ≡ k) → find k (puts l) ≡ if_put (find k l) → find k (puts (w ∷ l)) ≡ if_put (find k (w ∷ l))
    go (yes p) (yes e) i = rw (puts_put w l p, find_head k w (puts l) e, find_head k w l e) (sym (if_put_lem w p))
    go (yes p) (no e) i = rw (puts_put w l p, find_past k w (puts l) e, find_past k w l e) i
    go (no p) (yes e) i =
        rw (puts_other w l p, find_head k w l e)
        (i ∙ ap if_put (find_none k (offer_of w + 1) l (from_tail n w l f) (omega arith)) ∙ sym (if_other w p))
    go (no p) (no e) i = rw (puts_other w l p, find_past k w l e) i

module _ (k : ℕ) (m d : List ℕ) (hm : Map m) (hd : From 0 d) where
  found_in : find k (apply m d) ≡ if_put (or_else (find k d) (find k m))
  unfolding apply
  found_in = find-puts k 0 (compose m d) (compose_rises m d 0 hm.rises hd) ∙ ap if_put (find-compose k m d 0 hd)

  -- "Applying a list puts or removes its offers and touches no other"
  pub apply_puts : (w : ℕ) → find k d ≡ Some w → Put w → find k (apply m d) ≡ Some w
  apply_puts w e p = found_in ∙ ap (λ f. if_put (or_else f (find k m))) e ∙ if_put_lem w p

  pub apply_removes : (w : ℕ) → find k d ≡ Some w → (Put w → ⊥) → find k (apply m d) ≡ None
  apply_removes w e p = found_in ∙ ap (λ f. if_put (or_else f (find k m))) e ∙ if_other w p

  pub apply_leaves : find k d ≡ None → find k (apply m d) ≡ find k m
  apply_leaves e = found_in ∙ ap (λ f. if_put (or_else f (find k m))) e ∙ go (find k m) refl
    where
      go : (f : Found) → find k m ≡ f → if_put f ≡ f
      go (Some w) i = if_put_lem w (found_all Put k m hm.puts w i)
      go None i = refl

-- a map after changes is a map
pub apply-Map : (m d : List ℕ) → From 0 m → From 0 d → Map (apply m d)
unfolding apply
apply-Map m d f g = record { rises = puts_rises _ 0 (compose_rises m d 0 f g); puts = puts-All _ }

pub apply-length : (m d : List ℕ) → length (apply m d) ≤ length m + length d
unfolding apply
apply-length m d = omega (arith, puts-length (compose m d), compose-length m d)

-- removals that a later list does not touch may go before it or after it
puts_before : (x b : List ℕ) → From 0 x → From 0 b → puts (compose (puts x) b) ≡ puts (compose x b)
puts_before x b f g =
    let before : From 0 (compose (puts x) b) = compose_rises (puts x) b 0 (puts_rises x 0 f) g in
    let after : From 0 (compose x b) = compose_rises x b 0 f g in
    rising_ext 0 _ _ (puts_rises _ 0 before) (puts_rises _ 0 after)
    (λ k.
    find-puts k 0 _ before
    ∙ ap if_put (find-compose k (puts x) b 0 g ∙ ap (or_else (find k b)) (find-puts k 0 x f))
    ∙ once (find k b) (find k x)
    ∙ ap if_put (sym (find-compose k x b 0 g))
    ∙ sym (find-puts k 0 _ after))
  where
    again : (w : ℕ) → Dec (Put w) → if_put (if_put (Some w)) ≡ if_put (Some w)
    again w (yes p) = ap if_put (if_put_lem w p)
    again w (no p) = ap if_put (if_other w p) ∙ sym (if_other w p)

    once : (f g : Found) → if_put (or_else f (if_put g)) ≡ if_put (or_else f g)
    once (Some w) g = refl
    once None (Some w) = again w (ℕ_discrete (kind_of w) 1)
    once None None = refl

-- applying one list and then another is applying their composition
pub apply-compose : (m a b : List ℕ) → From 0 m → From 0 a → From 0 b → apply (apply m a) b ≡ apply m (compose a b)
unfolding apply
apply-compose m a b f g h = puts_before (compose m a) b (compose_rises m a 0 f g) h ∙ ap puts (compose_assoc m a b)

-- removing an offer that is not there changes nothing
pub remove_absent : (m : List ℕ) (w : ℕ) → Map m → (Put w → ⊥) → find (offer_of w) m ≡ None → apply m (w ∷ []) ≡ m
remove_absent m w hm p e =
    rising_ext 0 _ _ (apply-Map m (w ∷ []) hm.rises alone).rises hm.rises (λ k. go k (ℕ_discrete (offer_of w) k))
  where
    alone : From 0 (w ∷ [])
    alone = from_cons 0 w [] (omega arith) (From-nil _)

    go : (k : ℕ) → Dec (offer_of w ≡ k) → find k (apply m (w ∷ [])) ≡ find k m
    go k (yes o) = apply_removes k m (w ∷ []) hm alone w (find_head k w [] o) p ∙ sym (ap (λ (n : ℕ). find n m) (sym o) ∙ e)
    go k (no o) = apply_leaves k m (w ∷ []) hm alone (find_past k w [] o ∙ find_empty k)

pub apply-nil : (m : List ℕ) → All Put m → apply m [] ≡ m
unfolding apply
apply-nil m p = ap puts (compose-nil m) ∙ puts_of-puts m p

-- A run of lists: composed it rises and is valid, split anywhere it is the same list, and applied it is the lists applied in turn.
pub compose_all-nil : compose_all [] ≡ []
unfolding compose_all
compose_all-nil = refl

pub compose_all-cons : (d : List ℕ) (ds : List (List ℕ)) → compose_all (d ∷ ds) ≡ compose d (compose_all ds)
unfolding compose_all
compose_all-cons d ds = refl

pub compose_all_split : (xs ys : List (List ℕ)) → compose_all (xs ++ ys) ≡ compose (compose_all xs) (compose_all ys)
unfolding compose_all
compose_all_split [] ys = sym (nil-compose (compose_all ys))
compose_all_split (d ∷ xs) ys = ap (compose d) (compose_all_split xs ys) ∙ sym (compose_assoc d (compose_all xs) (compose_all ys))

pub compose_all_one : (d : List ℕ) → compose_all (d ∷ []) ≡ d
unfolding compose_all
compose_all_one d = compose-nil d

pub compose_all-Changes : (ds : List (List ℕ)) → All Changes ds → Changes (compose_all ds)
unfolding compose_all All From
compose_all-Changes [] h = record { rises = tt; valid = tt }
compose_all-Changes (d ∷ ds) h =
    let rest = compose_all-Changes ds h.1 in
    record {
      rises = compose_rises d (compose_all ds) 0 h.0.rises rest.rises;
      valid = compose-All Valid d (compose_all ds) h.0.valid rest.valid;
    }

pub apply_all_lem : (m : List ℕ) (ds : List (List ℕ)) → Map m → All Changes ds → apply_all m ds ≡ apply m (compose_all ds)
unfolding apply_all compose_all All
apply_all_lem m [] hm h = sym (apply-nil m hm.puts)
apply_all_lem m (d ∷ ds) hm h =
    apply_all_lem (apply m d) ds (apply-Map m d hm.rises h.0.rises) h.1
    ∙ apply-compose m d (compose_all ds) hm.rises h.0.rises (compose_all-Changes ds h.1).rises
