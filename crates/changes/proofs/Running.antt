-- Runs of steps: where they lie, and how long they are.
-- Assumes nothing.
use mathlib.Core.Path.{◌≡◌, refl, sym, ap, ◌∙◌}
use mathlib.Core.List.{List, [], ◌∷◌, ◌++◌}
use Prim.Native.Nat.{ℕ, zero, suc, ◌+◌, ◌-◌, ◌≤◌, ◌<◌}
use native.Mathlib.Omega.{arith}
use lib.ListN.{length, get_or, drop, length-drop}
use lib.Seq.{length-take-le}
use Rattle.changes.specs.Calculus.{compose_all}
use Rattle.changes.specs.Runs.{start_of, step_of, run_of, run_words, Marked}
use Rattle.changes.proofs.Applying.{compose_all-nil, compose_all-cons}
use Rattle.changes.proofs.Rising.{compose-length}

-- a step that is not the first starts at the mark before it
pub start_later : (ends : List ℕ) (i : ℕ) → (i ≡ 0 → ⊥) → start_of ends i ≡ get_or ends (i - 1) 0
start_later ends i n =
    let e : i ≡ suc (i - 1) = omega arith in
    ap (λ (k : ℕ). get_or (0 ∷ ends) k 0) e

-- fewer steps are marked too
pub Marked-fewer : {words ends : List ℕ} {n : ℕ} → Marked words ends n → (k : ℕ) → k ≤ n → Marked words ends k
Marked-fewer m k h =
    record {
      within = omega (arith, m.within);
      rises = λ i j p q. m.rises i j p (omega arith);
      inside = omega (arith, m.rises k _ h (omega arith), m.inside);
    }

module _ (words ends : List ℕ) where
  pub run_none : (i : ℕ) → run_of words ends i 0 ≡ []
  unfolding run_of
  run_none i = refl

  pub run_one : (i : ℕ) → run_of words ends i 1 ≡ step_of words ends i ∷ []
  unfolding run_of
  run_one i = refl

  pub run_split : (n m i : ℕ) → run_of words ends i (n + m) ≡ run_of words ends i n ++ run_of words ends (i + n) m
  unfolding run_of
  run_split zero m i =
      let e : 0 + m ≡ m = omega arith in
      let f : i + 0 ≡ i = omega arith in
      ap (run_of words ends i) e ∙ ap (λ (k : ℕ). run_of words ends k m) (sym f)
  run_split (suc n) m i =
      let e : suc n + m ≡ suc (n + m) = omega arith in
      let f : i + 1 + n ≡ i + suc n = omega arith in
      ap (run_of words ends i) e
      ∙ ap (λ (l : List (List ℕ)). step_of words ends i ∷ l)
      (run_split n m (i + 1) ∙ ap (λ (k : ℕ). run_of words ends (i + 1) n ++ run_of words ends k m) f)

  module _ (n : ℕ) (m : Marked words ends n) where
    pub step_length : (i : ℕ) → i < n → length (step_of words ends i) ≡ run_words ends i (i + 1)
    step_length i h =
        length-take-le (run_words ends i (i + 1)) (drop (start_of ends i) words)
        (omega (arith, length-drop (start_of ends i) words, m.rises (i + 1) n (omega arith) (omega arith), m.inside))

    -- a composed run is at most as long as its words
    pub run_length : (k i : ℕ) → i + k ≤ n → length (compose_all (run_of words ends i k)) ≤ run_words ends i (i + k)
    unfolding run_of
    run_length zero i h = rw compose_all-nil (omega arith)
    run_length (suc k) i h =
        let e : i + 1 + k ≡ i + suc k = omega arith in
        let rest : length (compose_all (run_of words ends (i + 1) k)) ≤ run_words ends (i + 1) (i + suc k) =
        rw (← e) (run_length k (i + 1) (omega arith)) in
        rw compose_all-cons
        (omega (
          arith,
          compose-length (step_of words ends i) (compose_all (run_of words ends (i + 1) k)),
          step_length i (omega arith),
          rest,
          m.rises i (i + 1) (omega arith) (omega arith),
          m.rises (i + 1) (i + suc k) (omega arith) (omega arith),
        ))
