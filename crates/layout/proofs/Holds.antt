-- Tests of every number below a bound, and lists of tests, as code meets them.
-- Assumes nothing.
use mathlib.Core.Path.{◌≡◌, refl, sym, ap, ◌∙◌}
use mathlib.Core.Bool.{Bool, true, false, ◌&&◌, and-true, and_assoc}
use mathlib.Core.List.{List, [], ◌∷◌}
use Prim.Native.Nat.{ℕ, zero, suc, ◌+◌, ◌<◌}
use native.Mathlib.Numerals.{add-one}
use native.Mathlib.Decide.{ℕ_discrete}
use native.Mathlib.Omega.{arith}
use Rattle.std.specs.List.{list_all, range_with_len}
use Rattle.changes.proofs.ListTest.{and_both}
use Rattle.layout.specs.Tests.{all_below, all_of}

-- a list of tests
module _ (t : Bool) (ts : List Bool) where
  pub first_fails : t ≡ false → all_of (t ∷ ts) ≡ false
  unfolding all_of
  first_fails e = rw e

  pub first_holds : t ≡ true → all_of (t ∷ ts) ≡ all_of ts
  unfolding all_of
  first_holds e = rw e

  pub all_first : all_of (t ∷ ts) ≡ true → t ≡ true
  unfolding all_of
  all_first e = (and_both t (all_of ts) e).0

  pub all_rest : all_of (t ∷ ts) ≡ true → all_of ts ≡ true
  unfolding all_of
  all_rest e = (and_both t (all_of ts) e).1

pub all_none : all_of [] ≡ true
unfolding all_of
all_none = refl

pub last_test : (t : Bool) → all_of (t ∷ []) ≡ t
unfolding all_of
last_test true = refl
last_test false = refl

-- a test of every number below a bound
module _ (test : ℕ → Bool) where
  pub none_below : all_below 0 test ≡ true
  unfolding all_below
  none_below = refl

  pub goes_on : (k : ℕ) → all_below k test ≡ true → test k ≡ true → all_below (k + 1) test ≡ true
  unfolding all_below
  goes_on k e t = rw (add-one k, e) t

  pub all_at : (n : ℕ) → all_below n test ≡ true → (k : ℕ) → k < n → test k ≡ true
  unfolding all_below
  all_at zero e k h = absurd (omega arith)
  all_at (suc n) e k h = go (ℕ_discrete k n) (all_at n (and_both _ _ e).0 k)
    where
      go : Dec (k ≡ n) → (k < n → test k ≡ true) → test k ≡ true
      go (yes s) i = ap test s ∙ (and_both (all_below n test) (test n) e).1
      go (no s) i = i (omega arith)

  pub all_of_lem : (n : ℕ) → ((k : ℕ) → k < n → test k ≡ true) → all_below n test ≡ true
  unfolding all_below
  all_of_lem zero h = refl
  all_of_lem (suc n) h = rw (all_of_lem n (λ k l. h k (omega arith))) (h n (omega arith))

  pub stops : (n k : ℕ) → k < n → test k ≡ false → all_below n test ≡ false
  stops n k h f = go (all_below n test) refl
    where
      go : (b : Bool) → all_below n test ≡ b → b ≡ false
      go false e = refl
      go true e = absurd (let z : ◌≡◌ {A = ℕ} 0 1 = cc (all_at n e k h) in omega arith)

  -- the tests of the numbers of a range, in their order
  range_more : (a n b : ℕ) → b ≡ a + n → list_all test (range_with_len a (suc n)) ≡ list_all test (range_with_len a n) && test b
  range_more a zero b e = and-true (test a) ∙ ap test (omega arith)
  range_more a (suc n) b e =
      ap (λ t. test a && t) (range_more (a + 1) n b (omega arith))
      ∙ sym (and_assoc (test a) (list_all test (range_with_len (a + 1) n)) (test b))

  pub all_in_range : (n : ℕ) → list_all test (range_with_len 0 n) ≡ all_below n test
  unfolding all_below
  all_in_range zero = refl
  all_in_range (suc n) = range_more 0 n n (omega arith) ∙ ap (λ t. t && test n) (all_in_range n)
