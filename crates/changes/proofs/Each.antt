-- What holds of each element of a list holds of each of its parts; lists that keep their rules are changes.
-- Assumes nothing.
use mathlib.Core.Path.{◌≡◌}
use mathlib.Core.Bool.{true}
use mathlib.Core.List.{List, [], ◌∷◌, ◌++◌}
use Prim.Native.Nat.{ℕ, zero, suc, ◌<◌}
use native.Mathlib.Omega.{arith}
use lib.ListN.{length, get_or, take, drop}
use Rattle.changes.specs.Lists.{is_list, All, Changes}
use Rattle.changes.proofs.ListTest.{list_facts}

module _ {A : Type 0} (P : A → Type 0) where
  pub all_at : (l : List A) (d : A) (k : ℕ) → All P l → k < length l → P (get_or l k d)
  unfolding All
  all_at [] d k h i = absurd (omega arith)
  all_at (x ∷ l) d zero h i = h.0
  all_at (x ∷ l) d (suc k) h i = all_at l d k h.1 (omega arith)

  pub all_take : (n : ℕ) (l : List A) → All P l → All P (take n l)
  unfolding All
  all_take zero l h = tt
  all_take (suc n) [] h = tt
  all_take (suc n) (x ∷ l) h = (h.0, all_take n l h.1)

  pub all_drop : (n : ℕ) (l : List A) → All P l → All P (drop n l)
  unfolding All
  all_drop zero l h = h
  all_drop (suc n) [] h = tt
  all_drop (suc n) (x ∷ l) h = all_drop n l h.1

  pub All-second : (xs ys : List A) → All P (xs ++ ys) → All P ys
  unfolding All
  All-second [] ys h = h
  All-second (x ∷ xs) ys h = All-second xs ys h.1

  pub all_more : (l : List A) (x : A) → All P l → P x → All P (l ++ (x ∷ []))
  unfolding All
  all_more [] x h e = (e, tt)
  all_more (y ∷ l) x h e = (h.0, all_more l x h.1 e)

abbrev pub IsList : List ℕ → Type 0
IsList d = is_list d ≡ true

pub list_Changes : (d : List ℕ) → IsList d → Changes d
list_Changes d e =
    let f = list_facts d e in
    record { rises = f.1; valid = f.2 }

pub All-Changes : (ds : List (List ℕ)) → All IsList ds → All Changes ds
unfolding All
All-Changes [] h = tt
All-Changes (d ∷ ds) h = (list_Changes d h.0, All-Changes ds h.1)
