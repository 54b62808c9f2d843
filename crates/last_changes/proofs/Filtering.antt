-- The filter of offers: what was noted is found in it, and an offer whose cell is not set is in none of the steps that were noted.
-- Assumes nothing.
use mathlib.Core.Path.{◌≡◌, refl, sym, ap, ap₂, subst, ◌∙◌}
use mathlib.Core.Bool.{Bool, true, false}
use mathlib.Core.List.{List, [], ◌∷◌}
use Prim.Native.Nat.{ℕ, zero, suc, ◌+◌, ◌-◌, ◌%◌, ◌≤◌, ◌<◌}
use native.Mathlib.Omega.{arith}
use lib.ListN.{length, get_or, set, take, drop, length-set, length-drop, drop_of_length-le}
use lib.Seq.{get_or-set_same, get_or-take, get_or-drop, length-take-le}
use Rattle.entry.specs.Word.{offer_of}
use Rattle.words.proofs.Parts.{next}
use Rattle.std.proofs.Common.{None}
use Rattle.changes.specs.Calculus.{find, or_else, compose_all}
use Rattle.changes.specs.Lists.{From}
use Rattle.changes.specs.Runs.{start_of, step_of, run_of}
use Rattle.changes.proofs.Applying.{compose_all-nil, compose_all-cons}
use Rattle.changes.proofs.Find.{find_empty, find_nowhere}
use Rattle.changes.proofs.Laws.{later_wins}
use Rattle.changes.proofs.Running.{step_length}
use Rattle.last_changes.specs.Filter.{cell_of, noted, Noted}
use Rattle.last_changes.specs.Steps.{Rising}
use Rattle.last_changes.proofs.Seeking.{run_rises}

noted_none : (f : List Bool) → noted f [] ≡ f
unfolding noted
noted_none f = refl

noted_more : (f : List Bool) (w : ℕ) (l : List ℕ) → noted f (w ∷ l) ≡ noted (set f (cell_of w) true) l
unfolding noted
noted_more f w l = refl

noted-length : (f : List Bool) (l : List ℕ) → length (noted f l) ≡ length f
noted-length f [] = ap length (noted_none f)
noted-length f (w ∷ l) = ap length (noted_more f w l) ∙ noted-length (set f (cell_of w) true) l ∙ length-set f (cell_of w) true

-- a cell that is set stays so
set_stays : (f : List Bool) (p q : ℕ) → get_or f q false ≡ true → get_or (set f p true) q false ≡ true
set_stays [] p q e = e
set_stays (x ∷ f) zero zero e = refl
set_stays (x ∷ f) zero (suc q) e = e
set_stays (x ∷ f) (suc p) zero e = e
set_stays (x ∷ f) (suc p) (suc q) e = set_stays f p q e

noted_stays : (f : List Bool) (l : List ℕ) (q : ℕ) → get_or f q false ≡ true → get_or (noted f l) q false ≡ true
noted_stays f [] q e = ap (λ (g : List Bool). get_or g q false) (noted_none f) ∙ e
noted_stays f (w ∷ l) q e =
    ap (λ (g : List Bool). get_or g q false) (noted_more f w l)
    ∙ noted_stays (set f (cell_of w) true) l q (set_stays f (cell_of w) q e)

-- the cell of each word noted is set
noted_at : (f : List Bool) (l : List ℕ) → length f ≡ 16384 → (i : ℕ) → i < length l
    → get_or (noted f l) (cell_of (get_or l i 0)) false ≡ true
noted_at f [] e i b = absurd (omega arith)
noted_at f (w ∷ l) e zero b =
    ap (λ (g : List Bool). get_or g (cell_of w) false) (noted_more f w l)
    ∙ noted_stays (set f (cell_of w) true) l (cell_of w) (get_or-set_same f (cell_of w) true false (omega arith))
noted_at f (w ∷ l) e (suc i) b =
    ap (λ (g : List Bool). get_or g (cell_of (get_or l i 0)) false) (noted_more f w l)
    ∙ noted_at (set f (cell_of w) true) l (length-set f (cell_of w) true ∙ e) i (omega arith)

-- as a loop meets it: one word noted, and none left
pub note_next : (f : List Bool) (l : List ℕ) (i : ℕ) → i < length l → noted f (drop i l)
    ≡ noted (set f (cell_of (get_or l i 0)) true) (drop (i + 1) l)
note_next f l i h = ap (noted f) (next l i h) ∙ noted_more f (get_or l i 0) (drop (i + 1) l)

pub note_end : (f : List Bool) (l : List ℕ) (i : ℕ) → length l ≤ i → noted f (drop i l) ≡ f
note_end f l i h = ap (noted f) (drop_of_length-le l h) ∙ noted_none f

-- the words of the steps are noted where those between the marks of the first and of the last are
module _ {journal ends : List ℕ} {from to : ℕ} (r : Rising journal ends from to) where
  abbrev between : List ℕ
  between = take (start_of ends to - start_of ends from) (drop (start_of ends from) journal)

  module _ (k : ℕ) (low : from ≤ k) (high : k < to) (i : ℕ) (inside : i < length (step_of journal ends k)) where
    within : start_of ends k + i < start_of ends (k + 1)
    within = omega (arith, step_length journal ends to r.marked k high, r.marked.rises k (k + 1) (omega arith) (omega arith))

    step_at : get_or (step_of journal ends k) i 0 ≡ get_or journal (start_of ends k + i) 0
    step_at =
        get_or-take (start_of ends (k + 1) - start_of ends k) (drop (start_of ends k) journal) i 0 (omega (arith, within))
        ∙ get_or-drop (start_of ends k) journal i 0

    word_between : get_or between (start_of ends k - start_of ends from + i) 0 ≡ get_or (step_of journal ends k) i 0
    word_between =
        let first = r.marked.rises from k low (omega arith) in
        let last = r.marked.rises (k + 1) to (omega arith) (omega arith) in
        let position : start_of ends from + (start_of ends k - start_of ends from + i) ≡ start_of ends k + i = omega (arith, first) in
        get_or-take (start_of ends to - start_of ends from) (drop (start_of ends from) journal)
        (start_of ends k - start_of ends from + i) 0 (omega (arith, first, last, within))
        ∙ get_or-drop (start_of ends from) journal (start_of ends k - start_of ends from + i) 0
        ∙ ap (λ (n : ℕ). get_or journal n 0) position
        ∙ sym step_at

    between-length : start_of ends k - start_of ends from + i < length between
    between-length =
        let first = r.marked.rises from k low (omega arith) in
        let last = r.marked.rises (k + 1) to (omega arith) (omega arith) in
        omega (
          arith,
          first,
          last,
          within,
          length-take-le (start_of ends to - start_of ends from) (drop (start_of ends from) journal)
              (omega (arith, length-drop (start_of ends from) journal, r.marked.inside)),
        )

  all_noted : (f : List Bool) → length f ≡ 16384 → Noted (noted f between) journal ends from to
  all_noted f e =
      record {
        long = noted-length f between ∙ e;
        each = λ k low high i b.
            ap (λ (w : ℕ). get_or (noted f between) (cell_of w) false) (sym (word_between k low high i b))
            ∙ noted_at f between e (start_of ends k - start_of ends from + i) (between-length k low high i b);
      }

  pub part_Noted : (f g : List Bool) → length f ≡ 16384 → (a b : ℕ) → a ≡ start_of ends from → b ≡ start_of ends to → g
      ≡ noted f (take (b - a) (drop a journal)) → Noted g journal ends from to
  part_Noted f g e a b ea eb h =
      subst (λ (x : List Bool). Noted x journal ends from to)
      (sym (h ∙ ap₂ (λ (x y : ℕ). noted f (take (y - x) (drop x journal))) ea eb)) (all_noted f e)

-- what none of the steps has, their composition has not
none_in_run : (words ends : List ℕ) (offer n i : ℕ) → ((k : ℕ) → i ≤ k → k < i + n → From 0 (step_of words ends k))
    → ((k : ℕ) → i ≤ k → k < i + n → find offer (step_of words ends k) ≡ None)
    → find offer (compose_all (run_of words ends i n)) ≡ None
unfolding run_of
none_in_run words ends offer zero i h g = ap (find offer) compose_all-nil ∙ find_empty offer
none_in_run words ends offer (suc n) i h g =
    ap (find offer) (compose_all-cons (step_of words ends i) (run_of words ends (i + 1) n))
    ∙ later_wins offer (step_of words ends i) (compose_all (run_of words ends (i + 1) n))
    (run_rises words ends n (i + 1) (λ k a b. h k (omega arith) (omega arith)))
    ∙ ap₂ or_else (none_in_run words ends offer n (i + 1) (λ k a b. h k (omega arith) (omega arith))
    (λ k a b. g k (omega arith) (omega arith))) (g i (omega arith) (omega arith))

-- an offer whose cell is not set is in none of the steps
pub not_noted : {filter : List Bool} {journal ends : List ℕ} {from to : ℕ} → Rising journal ends from to
    → Noted filter journal ends from to → (word : ℕ) → get_or filter (cell_of word) false ≡ false
    → find (offer_of word) (compose_all (run_of journal ends from (to - from))) ≡ None
not_noted {filter} {journal} {ends} {from} {to} r n word e =
    none_in_run journal ends (offer_of word) (to - from) from (λ k a b. r.rises k a (omega (arith, r.order)))
    (λ k a b. find_nowhere (offer_of word) (step_of journal ends k) (λ i l o. absurd (clash k a (omega (arith, r.order)) i l o)))
  where
    clash : (k : ℕ) → from ≤ k → k < to → (i : ℕ) → i < length (step_of journal ends k)
        → offer_of (get_or (step_of journal ends k) i 0) ≡ offer_of word → ⊥
    clash k a b i l o =
        let set_there : get_or filter (cell_of word) false ≡ true = ap (λ (m : ℕ). get_or filter (m % 16384) false) (sym o)
        ∙ n.each k a b i l in
        let z : ◌≡◌ {A = ℕ} 0 1 = cc in
        omega arith
