-- Lists laid out in memory pass the test of a journal, and are read back as they were; a journal that passes is its lists, laid out.
-- What is in memory after one list more, after the last of them are cut off, and after the first of them went.
-- Assumes nothing.
use mathlib.Core.Path.{◌≡◌, refl, sym, ap, ap₂, subst, ◌∙◌}
use mathlib.Core.Bool.{true}
use mathlib.Core.List.{List, [], ◌∷◌, ◌++◌, map, append_assoc, append-nil}
use Prim.Native.Nat.{ℕ, zero, suc, ◌+◌, ◌-◌, ◌≤◌, ◌<◌}
use native.Mathlib.Omega.{arith}
use lib.ListN.{length, take, drop, set, replicate, length-append, length-drop, length-replicate, take-append-drop}
use lib.ListN.{replicate-append-replicate}
use lib.Seq.{length-take-le, take_at, drop_at, set_at, append_snoc, take-append_seam, drop-append_seam, drop-append-add}
use Rattle.changes.specs.Lists.{is_list, All}
use Rattle.changes.specs.Runs.{start_of, run_of, run_words, Marked}
use Rattle.changes.proofs.Each.{IsList, All-second, all_more}
use Rattle.words.proofs.Parts.{zeros_next, zeros_from}
use Rattle.layout.specs.Clauses.{is_step, is_journal}
use Rattle.layout.specs.Tests.{are_zeros}
use Rattle.views.specs.Laid.{padded, flat, marks_from, laid_words, laid_marks, Fits}
use Rattle.views.specs.Trim.{moved_ends}
use Rattle.layout.proofs.Holds.{first_holds, all_first, all_rest, all_none, all_at, all_of_lem}
use Rattle.layout.proofs.StepTests.{step_rises, step_list, steps_inside}
use Rattle.layout.proofs.WordTests.{zeros_fact, fact_zeros}
use Rattle.views.proofs.StepLists.{run_marks, run_words_lem, marks_length, marks_end, Laid, cut_again, steps_pass}

-- words with zeros behind are their first words, padded
pub padded_is : (l : List ℕ) (n : ℕ) → n ≤ length l → are_zeros (drop n l) ≡ true → padded (length l) (take n l) ≡ l
padded_is l n h z =
    let long : length l - length (take n l) ≡ length (drop n l) = omega (arith, length-take-le n l h, length-drop n l) in
    ap (λ (k : ℕ). take n l ++ replicate k 0) long
    ∙ ap (λ (r : List ℕ). take n l ++ r) (sym (zeros_fact (drop n l) z))
    ∙ take-append-drop n l

pub padded-length : (n : ℕ) (l : List ℕ) → length l ≤ n → length (padded n l) ≡ n
padded-length n l h = simp (length-append, length-replicate) (omega arith)

pub padded_zeros : (n : ℕ) (l : List ℕ) → are_zeros (drop (length l) (padded n l)) ≡ true
padded_zeros n l = ap are_zeros (drop-append_seam l (replicate (n - length l) 0)) ∙ fact_zeros (n - length l)

-- words written behind padded words are padded with them
padded_more : (n : ℕ) (l d : List ℕ) → take (length l) (padded n l) ++ d ++ drop (length l + length d) (padded n l) ≡ padded n (l ++ d)
padded_more n l d =
    let left : n - length l - length d ≡ n - length (l ++ d) = omega (arith, length-append l d) in
    ap₂ (λ (a b : List ℕ). a ++ d ++ b)
    (take-append_seam l (replicate (n - length l) 0))
    (drop-append-add l (replicate (n - length l) 0) (length d)
    ∙ zeros_from (length d) (n - length l)
    ∙ ap (λ (k : ℕ). replicate {A = ℕ} k 0) left)

-- a word set behind padded words is padded with them
padded-set : (n : ℕ) (l : List ℕ) (w k : ℕ) → length l ≡ k → k < n → set (padded n l) k w ≡ padded n (l ++ (w ∷ []))
padded-set n l w k e h =
    let left : n - (length l + 1) ≡ n - length (l ++ (w ∷ [])) = omega (arith, length-append l (w ∷ [])) in
    ap (λ (z : List ℕ). set (l ++ z) k w) (zeros_next n (length l) (omega arith))
    ∙ set_at l 0 (replicate (n - (length l + 1)) 0) w k e
    ∙ sym (append_snoc l w (replicate (n - (length l + 1)) 0))
    ∙ ap (λ (m : ℕ). (l ++ (w ∷ [])) ++ replicate m 0) left

-- words cut back to their first part, with zeros behind, are that part padded
padded_cut : (n : ℕ) (l r : List ℕ) (k : ℕ) → length l ≡ k → take k (padded n (l ++ r)) ++ replicate (n - k) 0 ≡ padded n l
padded_cut n l r k e =
    ap₂ ◌++◌
    (ap (take k) (append_assoc l r (replicate (n - length (l ++ r)) 0)) ∙ take_at l (r ++ replicate (n - length (l ++ r)) 0) k e)
    (ap (λ (m : ℕ). replicate {A = ℕ} (n - m) 0) (sym e))

-- words with zeros behind, the first of which go and the rest move to the start
padded_moved : (n : ℕ) (l r : List ℕ) → length l + length r ≤ n → drop (length l) (padded n (l ++ r)) ++ replicate (length l) 0 ≡ padded n r
padded_moved n l r h =
    let k : n - length (l ++ r) + length l ≡ n - length r = omega (arith, length-append l r) in
    ap (λ (w : List ℕ). drop (length l) w ++ replicate (length l) 0) (append_assoc l r (replicate (n - length (l ++ r)) 0))
    ∙ ap (λ (w : List ℕ). w ++ replicate (length l) 0) (drop_at l (r ++ replicate (n - length (l ++ r)) 0) (length l) refl)
    ∙ append_assoc r (replicate (n - length (l ++ r)) 0) (replicate (length l) 0)
    ∙ ap (λ (w : List ℕ). r ++ w) (replicate-append-replicate (n - length (l ++ r)) (length l) 0 ∙ ap (λ (m : ℕ). replicate m 0) k)

-- marks moved down are marks from a lower start
marks_down : (w s : ℕ) (ss : List (List ℕ)) → map (λ e. e - w) (marks_from (w + s) ss) ≡ marks_from s ss
unfolding marks_from
marks_down w s [] = refl
marks_down w s (d ∷ ss) =
    let first : w + s + length d - w ≡ s + length d = omega arith in
    let rest : w + s + length d ≡ w + (s + length d) = omega arith in
    ap₂ ◌∷◌ first (ap (λ (n : ℕ). map (λ e. e - w) (marks_from n ss)) rest ∙ marks_down w (s + length d) ss)

-- the words and the marks of lists that follow others, and of one more list
pub flat_append : (ps qs : List (List ℕ)) → flat (ps ++ qs) ≡ flat ps ++ flat qs
unfolding flat
flat_append [] qs = refl
flat_append (d ∷ ps) qs = ap (λ (l : List ℕ). d ++ l) (flat_append ps qs) ∙ sym (append_assoc d (flat ps) (flat qs))

pub marks_append : (a : ℕ) (ps qs : List (List ℕ)) → marks_from a (ps ++ qs) ≡ marks_from a ps ++ marks_from (a + length (flat ps)) qs
unfolding marks_from flat
marks_append a [] qs =
    let same : a ≡ a + 0 = omega arith in
    ap (λ (n : ℕ). marks_from n qs) same
marks_append a (d ∷ ps) qs =
    let same : a + length d + length (flat ps) ≡ a + length (d ++ flat ps) = omega (arith, length-append d (flat ps)) in
    ap (λ (l : List ℕ). (a + length d) ∷ l)
    (marks_append (a + length d) ps qs ∙ ap (λ (n : ℕ). marks_from (a + length d) ps ++ marks_from n qs) same)

flat_one : (d : List ℕ) → flat (d ∷ []) ≡ d
unfolding flat
flat_one d = append-nil d

marks_one : (a : ℕ) (d : List ℕ) → marks_from a (d ∷ []) ≡ (a + length d) ∷ []
unfolding marks_from
marks_one a d = refl

flat_more : (ss : List (List ℕ)) (d : List ℕ) → flat (ss ++ (d ∷ [])) ≡ flat ss ++ d
flat_more ss d = flat_append ss (d ∷ []) ∙ ap (λ (l : List ℕ). flat ss ++ l) (flat_one d)

marks_more : (ss : List (List ℕ)) (d : List ℕ) → marks_from 0 (ss ++ (d ∷ [])) ≡ marks_from 0 ss ++ ((length (flat ss) + length d) ∷ [])
marks_more ss d =
    let same : 0 + length (flat ss) + length d ≡ length (flat ss) + length d = omega arith in
    marks_append 0 ss (d ∷ [])
    ∙ ap (λ (l : List ℕ). marks_from 0 ss ++ l) (marks_one (0 + length (flat ss)) d ∙ ap (λ (n : ℕ). n ∷ []) same)

-- what holds of each element holds of each of the first
All-front : {A : Type 0} (P : A → Type 0) (l r : List A) → All P (l ++ r) → All P l
unfolding All
All-front P [] r a = tt
All-front P (x ∷ l) r a = (a.0, All-front P l r a.1)

-- how many lists are read back, and that each is a list
pub run_count : (words ends : List ℕ) (k i : ℕ) → length (run_of words ends i k) ≡ k
unfolding run_of
run_count words ends zero i = refl
run_count words ends (suc k) i = ap suc (run_count words ends k (i + 1))

run_lists : (words ends : List ℕ) (k i : ℕ) → ((j : ℕ) → j < k → is_step words ends (i + j) ≡ true)
    → All IsList (run_of words ends i k)
unfolding run_of All
run_lists words ends zero i t = tt
run_lists words ends (suc k) i t =
    let first : i + 0 ≡ i = omega arith in (
      step_list words ends i (subst (λ (n : ℕ). is_step words ends n ≡ true) first (t 0 (omega arith))),
      run_lists words ends k (i + 1) (λ j h.
          let same : i + suc j ≡ i + 1 + j = omega arith in
          subst (λ (n : ℕ). is_step words ends n ≡ true) same (t (suc j) (omega arith))),
    )

-- what the test of a journal says
module _ (words ends : List ℕ) (n : ℕ) (j : is_journal words ends n ≡ true) where
  pub journal_steps : (k : ℕ) → k < n → is_step words ends k ≡ true
  journal_steps = all_at (is_step words ends) n (all_first _ _ j)

  words_zeros : are_zeros (drop (start_of ends n) words) ≡ true
  words_zeros = all_first _ _ (all_rest _ _ j)

  marks_zeros : are_zeros (drop n ends) ≡ true
  marks_zeros = all_first _ _ (all_rest _ _ (all_rest _ _ j))

  -- the first steps end within the words
  pub journal_inside : (k : ℕ) → k ≤ n → start_of ends k ≤ length words
  journal_inside k h = steps_inside words ends k (all_of_lem (is_step words ends) k (λ i l. journal_steps i (omega arith)))

  rising : (i d : ℕ) → i + d ≤ n → start_of ends i ≤ start_of ends (i + d)
  rising i zero h = subst (λ (m : ℕ). start_of ends i ≤ start_of ends m) same (omega arith)
    where
      same : i ≡ i + 0
      same = omega arith
  rising i (suc d) h =
      let before = rising i d (omega arith) in
      let step : start_of ends (i + d) ≤ start_of ends (i + d + 1) = step_rises words ends (i + d) (journal_steps (i + d) (omega arith)) in
      let same : i + d + 1 ≡ i + suc d = omega arith in
      subst (λ (m : ℕ). start_of ends i ≤ start_of ends m) same (omega arith)

  pub journal_Marked : n ≤ length ends → Marked words ends n
  journal_Marked within =
      record {
        within = within;
        rises = λ i k h l.
            let same : i + (k - i) ≡ k = omega arith in
            subst (λ (m : ℕ). start_of ends i ≤ start_of ends m) same (rising i (k - i) (omega arith));
        inside = journal_inside n (omega arith);
      }

  -- a journal that passes: its lists, laid out, are its words and its marks
  module _ (long : length ends ≡ 64) (few : n ≤ 64) where
    marked : Marked words ends n
    marked = journal_Marked (omega arith)

    words_are : flat (run_of words ends 0 n) ≡ take (start_of ends n) words
    words_are =
        let same : 0 + n ≡ n = omega arith in
        let count : run_words ends 0 (0 + n) ≡ start_of ends n = ap (λ (m : ℕ). start_of ends m - 0) same ∙ omega arith in
        run_words_lem words ends n marked n 0 (omega arith) ∙ ap (λ (m : ℕ). take m words) count

    pub laid_back : (laid_words (length words) (run_of words ends 0 n) ≡ words) × (laid_marks (run_of words ends 0 n) ≡ ends)
    laid_back = (
      ap (padded (length words)) words_are ∙ padded_is words (start_of ends n) marked.inside words_zeros,
      ap (padded 64) (run_marks words ends n marked n 0 (omega arith))
          ∙ ap (λ (m : ℕ). padded m (take n ends)) (sym long)
          ∙ padded_is ends n marked.within marks_zeros,
    )

    pub read_fits : Fits (length words) (run_of words ends 0 n)
    read_fits =
        record {
          each = run_lists words ends n 0 (λ k h.
              let same : k ≡ 0 + k = omega arith in
              subst (λ (m : ℕ). is_step words ends m ≡ true) same (journal_steps k h));
          few = omega (arith, run_count words ends n 0);
          words = omega (arith, ap length words_are, length-take-le (start_of ends n) words marked.inside, marked.inside);
        }

-- some lists
module _ (room : ℕ) (ss : List (List ℕ)) where
  abbrev W : List ℕ
  W = laid_words room ss

  abbrev E : List ℕ
  E = laid_marks ss

  laid : Laid W E 0 ss (replicate (room - length (flat ss)) 0) (replicate (64 - length (marks_from 0 ss)) 0)
  laid = record { inside = omega arith; words_from = refl; marks_from = refl }

  -- they are read back as they were
  pub laid_again : run_of W E 0 (length ss) ≡ ss
  laid_again = cut_again W E 0 ss _ _ laid

  pub last_end : start_of E (length ss) ≡ length (flat ss)
  last_end = marks_end 0 ss (replicate (64 - length (marks_from 0 ss)) 0) ∙ omega arith

  module _ (f : Fits room ss) where
    pub laid_long : (length W ≡ room) × (length E ≡ 64)
    laid_long = (padded-length room (flat ss) f.words, padded-length 64 (marks_from 0 ss) (omega (arith, marks_length 0 ss, f.few)))

    pub laid_sound : is_journal W E (length ss) ≡ true
    laid_sound =
        first_holds _ _ (all_of_lem (is_step W E) (length ss) (λ k h.
        let same : 0 + k ≡ k = omega arith in
        subst (λ (n : ℕ). is_step W E n ≡ true) same (steps_pass W E 0 ss _ _ laid f.each k h)))
        ∙ first_holds _ _ (rw last_end (padded_zeros room (flat ss)))
        ∙ first_holds _ _ (rw (← marks_length 0 ss) (padded_zeros 64 (marks_from 0 ss)))
        ∙ all_none

  -- one more list behind them
  module _ (d : List ℕ) where
    pub laid_more : length ss < 64
        → (take (length (flat ss)) W ++ d ++ drop (length (flat ss) + length d) W ≡ laid_words room (ss ++ (d ∷ [])))
        × (set E (length ss) (length (flat ss) + length d) ≡ laid_marks (ss ++ (d ∷ [])))
    laid_more free = (
      padded_more room (flat ss) d ∙ ap (padded room) (sym (flat_more ss d)),
      padded-set 64 (marks_from 0 ss) (length (flat ss) + length d) (length ss) (marks_length 0 ss) free
          ∙ ap (padded 64) (sym (marks_more ss d)),
    )

    pub fits_more : Fits room ss → is_list d ≡ true → length ss < 64 → length d ≤ room - length (flat ss) → Fits room (ss ++ (d ∷ []))
    fits_more f t free enough =
        record {
          each = all_more IsList ss d f.each t;
          few = omega (arith, length-append ss (d ∷ []));
          words = omega (arith, ap length (flat_more ss d), length-append (flat ss) d, f.words);
        }

-- the first of some lists, and the rest of them
module _ (front rest : List (List ℕ)) where
  abbrev zeros : List ℕ
  zeros = replicate (64 - length (marks_from 0 (front ++ rest))) 0

  marks_are : laid_marks (front ++ rest) ≡ marks_from 0 front ++ (marks_from (length (flat front)) rest ++ zeros)
  marks_are =
      let start : 0 + length (flat front) ≡ length (flat front) = omega arith in
      ap (λ (l : List ℕ). l ++ zeros) (marks_append 0 front rest ∙ ap (λ (n : ℕ). marks_from 0 front ++ marks_from n rest) start)
      ∙ append_assoc (marks_from 0 front) (marks_from (length (flat front)) rest) zeros

  -- where the first of them end
  pub laid_end : start_of (laid_marks (front ++ rest)) (length front) ≡ length (flat front)
  laid_end =
      ap (λ (l : List ℕ). start_of l (length front)) marks_are
      ∙ marks_end 0 front (marks_from (length (flat front)) rest ++ zeros)
      ∙ omega arith

  marks_moved : moved_ends (laid_marks (front ++ rest)) (length front) (length (front ++ rest)) (length (flat front)) ≡ laid_marks rest
  marks_moved =
      let w = length (flat front) in
      let count : length (front ++ rest) - length front ≡ length rest = omega (arith, length-append front rest) in
      let start : w ≡ w + 0 = omega arith in
      let behind : take (length (front ++ rest) - length front) (drop (length front) (laid_marks (front ++ rest))) ≡ marks_from w rest =
      ap₂ take count
      (ap (drop (length front)) marks_are
      ∙ drop_at (marks_from 0 front) (marks_from w rest ++ zeros) (length front) (marks_length 0 front))
      ∙ take_at (marks_from w rest) zeros (length rest) (marks_length w rest) in
      ap (λ (l : List ℕ). padded 64 (map (λ e. e - w) l)) (behind ∙ ap (λ (n : ℕ). marks_from n rest) start)
      ∙ ap (padded 64) (marks_down w 0 rest)

  module _ (room : ℕ) where
    words_sum : length (flat (front ++ rest)) ≡ length (flat front) + length (flat rest)
    words_sum = ap length (flat_append front rest) ∙ length-append (flat front) (flat rest)

    -- the rest are cut off, and zeros stand in their place
    pub laid_cut :
        (take (length (flat front)) (laid_words room (front ++ rest)) ++ replicate (room - length (flat front)) 0 ≡ laid_words room front)
        × (take (length front) (laid_marks (front ++ rest)) ++ replicate (64 - length front) 0 ≡ laid_marks front)
    laid_cut = (
      ap (λ (l : List ℕ). take (length (flat front)) (padded room l) ++ replicate (room - length (flat front)) 0) (flat_append front rest)
          ∙ padded_cut room (flat front) (flat rest) (length (flat front)) refl,
      ap (λ (l : List ℕ). take (length front) (padded 64 l) ++ replicate (64 - length front) 0) (marks_append 0 front rest)
          ∙ padded_cut 64 (marks_from 0 front) (marks_from (0 + length (flat front)) rest) (length front) (marks_length 0 front),
    )

    module _ (f : Fits room (front ++ rest)) where
      -- the first go, and the rest move to the start
      pub laid_moved :
          (drop (length (flat front)) (laid_words room (front ++ rest)) ++ replicate (length (flat front)) 0 ≡ laid_words room rest)
          × (moved_ends (laid_marks (front ++ rest)) (length front) (length (front ++ rest)) (length (flat front)) ≡ laid_marks rest)
      laid_moved = (
        ap (λ (l : List ℕ). drop (length (flat front)) (padded room l) ++ replicate (length (flat front)) 0) (flat_append front rest)
            ∙ padded_moved room (flat front) (flat rest) (omega (arith, words_sum, f.words)),
        marks_moved,
      )

      pub Fits-front : Fits room front
      Fits-front =
          record {
            each = All-front IsList front rest f.each;
            few = omega (arith, length-append front rest, f.few);
            words = omega (arith, words_sum, f.words);
          }

      pub Fits-rest : Fits room rest
      Fits-rest =
          record {
            each = All-second IsList front rest f.each;
            few = omega (arith, length-append front rest, f.few);
            words = omega (arith, words_sum, f.words);
          }
