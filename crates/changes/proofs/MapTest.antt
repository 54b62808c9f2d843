-- The test of a map's words, clause by clause, and as facts.
-- Assumes nothing.
use mathlib.Core.Path.{◌≡◌, refl, ◌∙◌}
use mathlib.Core.Bool.{true, false, ◌&&◌}
use mathlib.Core.List.{List, [], ◌∷◌}
use Prim.Native.Nat.{ℕ, ◌+◌, ◌≤◌, ◌<◌}
use borrow.Author.Tests.{eq-eqb, ne_eqb, eqb-true, le-leb, lt-leb, leb-true}
use lib.Dec.{leb}
use Rattle.entry.specs.Word.{kind_of, offer_of, is_put, Put}
use Rattle.changes.specs.Lists.{is_map, From, All, Map}
use Rattle.changes.proofs.ListTest.{and_both}

pub map_none : (n : ℕ) → is_map n [] ≡ true
unfolding is_map
map_none n = refl

module _ (n w : ℕ) (l : List ℕ) where
  pub map_not_Put : (Put w → ⊥) → is_map n (w ∷ l) ≡ false
  unfolding is_map
  map_not_Put h = rw (ne_eqb (kind_of w) 1 h)

  pub map_below : Put w → offer_of w < n → is_map n (w ∷ l) ≡ false
  unfolding is_map
  map_below k h = rw (eq-eqb (kind_of w) 1 k, lt-leb n (offer_of w) h)

  pub map_next : Put w → n ≤ offer_of w → is_map n (w ∷ l) ≡ is_map (offer_of w + 1) l
  unfolding is_map
  map_next k h = rw (eq-eqb (kind_of w) 1 k, le-leb n (offer_of w) h)

pub map_facts : (n : ℕ) (l : List ℕ) → is_map n l ≡ true → From n l × All Put l
unfolding From All is_map
map_facts n [] e = (tt, tt)
map_facts n (w ∷ l) e =
    let all = and_both (is_put w && leb n (offer_of w)) (is_map (offer_of w + 1) l) e in
    let first = and_both (is_put w) (leb n (offer_of w)) all.0 in
    let rest = map_facts (offer_of w + 1) l all.1 in
    ((leb-true _ _ first.1, rest.0), (eqb-true _ _ first.0, rest.1))

pub facts_map : (n : ℕ) (l : List ℕ) → From n l → All Put l → is_map n l ≡ true
unfolding From All
facts_map n [] f p = map_none n
facts_map n (w ∷ l) f p = map_next n w l p.0 f.0 ∙ facts_map (offer_of w + 1) l f.1 p.1

pub map_of : (l : List ℕ) → is_map 0 l ≡ true → Map l
map_of l e =
    let f = map_facts 0 l e in
    record { rises = f.0; puts = f.1 }

pub of_map : (l : List ℕ) → Map l → is_map 0 l ≡ true
of_map l m = facts_map 0 l m.rises m.puts
