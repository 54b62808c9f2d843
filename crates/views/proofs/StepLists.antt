-- Lists that lie one after another with their marks: laid out, cut again, and tested.
-- Assumes nothing.
use mathlib.Core.Path.{◌≡◌, refl, sym, ap, ap₂, subst, ◌∙◌}
use mathlib.Core.Bool.{true}
use mathlib.Core.List.{List, [], ◌∷◌, ◌++◌, append_assoc}
use Prim.Native.Nat.{ℕ, zero, suc, ◌+◌, ◌-◌, ◌≤◌, ◌<◌}
use native.Mathlib.Omega.{arith}
use borrow.Author.Tests.{le-leb}
use lib.ListN.{length, get_or, take, drop, length-append, length-drop}
use lib.Seq.{take_at, drop_at, take-add, drop-drop}
use Rattle.changes.specs.Lists.{is_list, All}
use Rattle.changes.specs.Runs.{start_of, step_of, run_of, run_words, Marked}
use Rattle.words.proofs.Parts.{next}
use Rattle.changes.proofs.Running.{step_length}
use Rattle.layout.specs.Clauses.{is_step}
use Rattle.views.specs.Laid.{flat, marks_from}
use Rattle.layout.proofs.Holds.{first_holds, last_test}
use Rattle.layout.proofs.StepTests.{start_next}

-- the steps of marked words: their marks and their words
module _ (words ends : List ℕ) (n : ℕ) (m : Marked words ends n) where
  pub run_marks : (k i : ℕ) → i + k ≤ n → marks_from (start_of ends i) (run_of words ends i k) ≡ take k (drop i ends)
  unfolding marks_from run_of
  run_marks zero i h = refl
  run_marks (suc k) i h =
      let rise : start_of ends i ≤ start_of ends (i + 1) = m.rises i (i + 1) (omega arith) (omega arith) in
      let end : start_of ends i + length (step_of words ends i)
      ≡ start_of ends (i + 1) = omega (arith, step_length words ends n m i (omega arith)) in
      ap₂ ◌∷◌ (end ∙ start_next ends i) (ap (λ (s : ℕ). marks_from s (run_of words ends (i + 1) k)) end ∙ run_marks k (i + 1) (omega arith))
      ∙ ap (take (suc k)) (sym (next ends i (omega (arith, m.within))))

  pub run_words_lem : (k i : ℕ) → i + k ≤ n → flat (run_of words ends i k) ≡ take (run_words ends i (i + k)) (drop (start_of ends i) words)
  unfolding flat run_of
  run_words_lem zero i h =
      let same : i + 0 ≡ i = omega arith in
      let none : run_words ends i (i + 0) ≡ 0 = ap (λ (j : ℕ). start_of ends j - start_of ends i) same ∙ omega arith in
      rw none
  run_words_lem (suc k) i h =
      let rise : start_of ends i ≤ start_of ends (i + 1) = m.rises i (i + 1) (omega arith) (omega arith) in
      let on : start_of ends (i + 1) ≤ start_of ends (i + 1 + k) = m.rises (i + 1) (i + 1 + k) (omega arith) (omega arith) in
      let start : start_of ends i + run_words ends i (i + 1) ≡ start_of ends (i + 1) = omega arith in
      let next-end : i + 1 + k ≡ i + suc k = omega arith in
      let whole : run_words ends i (i + 1) + run_words ends (i + 1) (i + 1 + k) ≡ run_words ends i (i + 1 + k) = omega arith in
      let sum : run_words ends i (i + 1) + run_words ends (i + 1) (i + 1 + k) ≡ run_words ends i (i + suc k) =
      whole ∙ ap (λ (j : ℕ). start_of ends j - start_of ends i) next-end in
      ap (λ (l : List ℕ). step_of words ends i ++ l)
      (run_words_lem k (i + 1) (omega arith)
      ∙ ap (λ (s : ℕ). take (run_words ends (i + 1) (i + 1 + k)) (drop s words)) (sym start)
      ∙ ap (take (run_words ends (i + 1) (i + 1 + k))) (sym (drop-drop (run_words ends i (i + 1)) (start_of ends i) words)))
      ∙ sym (take-add (run_words ends i (i + 1)) (run_words ends (i + 1) (i + 1 + k)) (drop (start_of ends i) words))
      ∙ ap (λ (s : ℕ). take s (drop (start_of ends i) words)) sum

pub marks_length : (a : ℕ) (ss : List (List ℕ)) → length (marks_from a ss) ≡ length ss
unfolding marks_from
marks_length a [] = refl
marks_length a (s ∷ ss) = ap suc (marks_length (a + length s) ss)

-- where the last of some lists ends
pub marks_end : (a : ℕ) (ss : List (List ℕ)) (y : List ℕ) → get_or (a ∷ (marks_from a ss ++ y)) (length ss) 0 ≡ a + length (flat ss)
unfolding marks_from flat
marks_end a [] y = omega arith
marks_end a (s ∷ ss) y = marks_end (a + length s) ss y ∙ simp length-append (omega arith)

-- lists laid out from a position on, with their marks from a position on
pub record Laid (words ends : List ℕ) (i : ℕ) (ss : List (List ℕ)) (x y : List ℕ) : Type 0 where
  pub inside : start_of ends i ≤ length words
  pub words_from : drop (start_of ends i) words ≡ flat ss ++ x
  pub marks_from : drop i ends ≡ marks_from (start_of ends i) ss ++ y

module _ {words ends : List ℕ} {i : ℕ} {s : List ℕ} {ss : List (List ℕ)} {x y : List ℕ} (l : Laid words ends i (s ∷ ss) x y) where
  marks_are : drop i ends ≡ (start_of ends i + length s) ∷ (marks_from (start_of ends i + length s) ss ++ y)
  unfolding marks_from
  marks_are = l.marks_from

  words_are : drop (start_of ends i) words ≡ s ++ (flat ss ++ x)
  unfolding flat
  words_are = l.words_from ∙ append_assoc s (flat ss) x

  there : i < length ends
  there = omega (arith, ap length marks_are, length-drop i ends)

  pub mark_is : start_of ends (i + 1) ≡ start_of ends i + length s
  mark_is =
      let same : get_or ends i 0 ∷ drop (i + 1) ends ≡ (start_of ends i + length s)
      ∷ (marks_from (start_of ends i + length s) ss ++ y) = sym (next ends i there) ∙ marks_are in
      start_next ends i ∙ cc

  pub step_is : step_of words ends i ≡ s
  step_is =
      let count : start_of ends (i + 1) - start_of ends i ≡ length s = omega (arith, mark_is) in
      ap₂ take count words_are ∙ take_at s (flat ss ++ x) (length s) refl

  pub step_within : start_of ends (i + 1) ≤ length words
  step_within = omega (arith, mark_is, l.inside, simp length-append at (ap length words_are), length-drop (start_of ends i) words)

  pub Laid-rest : Laid words ends (i + 1) ss x y
  Laid-rest =
      let same : get_or ends i 0 ∷ drop (i + 1) ends ≡ (start_of ends i + length s)
      ∷ (marks_from (start_of ends i + length s) ss ++ y) = sym (next ends i there) ∙ marks_are in
      record {
        inside = step_within;
        words_from =
            ap (λ (n : ℕ). drop n words) mark_is
            ∙ sym (drop-drop (length s) (start_of ends i) words)
            ∙ ap (drop (length s)) words_are
            ∙ drop_at s (flat ss ++ x) (length s) refl;
        marks_from =
            let tail : drop (i + 1) ends ≡ marks_from (start_of ends i + length s) ss ++ y = cc in
            tail ∙ ap (λ (n : ℕ). marks_from n ss ++ y) (sym mark_is);
      }

  pub step_passes : is_list s ≡ true → is_step words ends i ≡ true
  step_passes t =
      first_holds _ _ (le-leb (start_of ends i) (start_of ends (i + 1)) (omega (arith, mark_is)))
      ∙ first_holds _ _ (le-leb (start_of ends (i + 1)) (length words) step_within)
      ∙ last_test _
      ∙ ap is_list step_is
      ∙ t

-- they are cut out again as they were, and each passes the test of a step
pub cut_again : (words ends : List ℕ) (i : ℕ) (ss : List (List ℕ)) (x y : List ℕ) → Laid words ends i ss x y
    → run_of words ends i (length ss) ≡ ss
unfolding run_of
cut_again words ends i [] x y l = refl
cut_again words ends i (s ∷ ss) x y l = ap₂ ◌∷◌ (step_is l) (cut_again words ends (i + 1) ss x y (Laid-rest l))

pub steps_pass : (words ends : List ℕ) (i : ℕ) (ss : List (List ℕ)) (x y : List ℕ) → Laid words ends i ss x y
    → All (λ d. is_list d ≡ true) ss
    → (k : ℕ) → k < length ss → is_step words ends (i + k) ≡ true
unfolding All
steps_pass words ends i [] x y l t k h = absurd (omega arith)
steps_pass words ends i (s ∷ ss) x y l t zero h =
    let same : i ≡ i + 0 = omega arith in
    subst (λ (n : ℕ). is_step words ends n ≡ true) same (step_passes l t.0)
steps_pass words ends i (s ∷ ss) x y l t (suc k) h =
    let same : i + 1 + k ≡ i + suc k = omega arith in
    subst (λ (n : ℕ). is_step words ends n ≡ true) same (steps_pass words ends (i + 1) ss x y (Laid-rest l) t.1 k (omega arith))
