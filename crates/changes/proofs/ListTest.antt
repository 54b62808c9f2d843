-- The test of a list's rules, clause by clause, and as facts.
-- Assumes nothing.
use mathlib.Core.Path.{◌≡◌, refl, ◌∙◌}
use mathlib.Core.Bool.{Bool, true, false, ◌&&◌}
use mathlib.Core.List.{List, [], ◌∷◌}
use Prim.Native.Nat.{ℕ, ◌+◌, ◌≤◌, ◌<◌}
use native.Mathlib.Decide.{ℕ_discrete}
use native.Mathlib.Omega.{arith}
use borrow.Author.Tests.{eq-eqb, ne_eqb, eqb-true, le-leb, lt-leb, leb-true}
use lib.Dec.{eqb, leb}
use lib.ListN.{length}
use Rattle.entry.specs.Word.{kind_of, offer_of, price_of, is_valid, Valid}
use Rattle.changes.specs.Lists.{is_rising, is_list, From, All}

-- a word of kind 1 is valid
pub valid_put : (w : ℕ) → kind_of w ≡ 1 → is_valid w ≡ true
valid_put w e = rw (eq-eqb (kind_of w) 1 e)

pub rising_empty : (n : ℕ) → is_rising n [] ≡ true
unfolding is_rising
rising_empty n = refl

pub rising_below : (n w : ℕ) (l : List ℕ) → offer_of w < n → is_rising n (w ∷ l) ≡ false
unfolding is_rising
rising_below n w l h = rw (lt-leb n (offer_of w) h)

module _ (n w : ℕ) (l : List ℕ) (h : n ≤ offer_of w) where
  pub rising_invalid : is_valid w ≡ false → is_rising n (w ∷ l) ≡ false
  unfolding is_rising
  rising_invalid v = rw (le-leb n (offer_of w) h, v)

  pub rising_next : is_valid w ≡ true → is_rising n (w ∷ l) ≡ is_rising (offer_of w + 1) l
  unfolding is_rising
  rising_next v = rw (le-leb n (offer_of w) h, v)

-- the test as facts
pub and_both : (a b : Bool) → a && b ≡ true → (a ≡ true) × (b ≡ true)
and_both true true e = (refl, refl)
and_both true false e = (refl, e)
and_both false b e = absurd (let z : ◌≡◌ {A = ℕ} 0 1 = cc in omega arith)

pub Valid-fact : (w : ℕ) → is_valid w ≡ true → Valid w
Valid-fact w e = go (ℕ_discrete (kind_of w) 1)
  where
    go : Dec (kind_of w ≡ 1) → Valid w
    go (yes k) = (omega arith, λ z. absurd (omega arith))
    go (no k) =
        let rest : eqb (kind_of w) 0 && eqb (price_of w) 0 ≡ true = rw (ne_eqb (kind_of w) 1 k) at e in
        let both = and_both _ _ rest in
        let removes : kind_of w ≡ 0 = eqb-true _ _ both.0 in
        (omega arith, λ z. eqb-true _ _ both.1)

pub fact_Valid : (w : ℕ) → Valid w → is_valid w ≡ true
fact_Valid w v = go (ℕ_discrete (kind_of w) 1)
  where
    go : Dec (kind_of w ≡ 1) → is_valid w ≡ true
    go (yes k) = valid_put w k
    go (no k) =
        let removes : kind_of w ≡ 0 = omega (arith, v.0) in
        rw (ne_eqb (kind_of w) 1 k, eq-eqb (kind_of w) 0 removes, eq-eqb (price_of w) 0 (v.1 removes))

pub rising_facts : (n : ℕ) (l : List ℕ) → is_rising n l ≡ true → From n l × All Valid l
unfolding From All is_rising
rising_facts n [] e = (tt, tt)
rising_facts n (w ∷ l) e =
    let all = and_both (leb n (offer_of w) && is_valid w) (is_rising (offer_of w + 1) l) e in
    let first = and_both (leb n (offer_of w)) (is_valid w) all.0 in
    let rest = rising_facts (offer_of w + 1) l all.1 in
    ((leb-true _ _ first.0, rest.0), (Valid-fact w first.1, rest.1))

pub facts_rising : (n : ℕ) (l : List ℕ) → From n l → All Valid l → is_rising n l ≡ true
unfolding From All
facts_rising n [] f v = rising_empty n
facts_rising n (w ∷ l) f v =
    rising_next n w l f.0 (fact_Valid w v.0) ∙ facts_rising (offer_of w + 1) l f.1 v.1

pub list_facts : (l : List ℕ) → is_list l ≡ true → (length l ≤ 64) × From 0 l × All Valid l
list_facts l e =
    let both = and_both (leb (length l) 64) (is_rising 0 l) e in
    let facts = rising_facts 0 l both.1 in
    (leb-true _ _ both.0, facts.0, facts.1)

pub list_short : (l : List ℕ) → length l ≤ 64 → is_list l ≡ is_rising 0 l
list_short l h = rw (le-leb (length l) 64 h)

pub list_long : (l : List ℕ) → 64 < length l → is_list l ≡ false
list_long l h = rw (lt-leb (length l) 64 h)
