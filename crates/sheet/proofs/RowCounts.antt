-- How many rows begin in a map's words, counted from the first word to the last.
-- Assumes nothing.
use mathlib.Core.Path.{◌≡◌, refl, sym, ap, ◌∙◌}
use mathlib.Core.Bool.{true, false, cond}
use mathlib.Core.List.{List, [], ◌∷◌}
use Prim.Native.Nat.{ℕ, suc, ◌+◌, ◌≤◌, ◌<◌}
use native.Mathlib.Omega.{arith}
use borrow.Author.Tests.{eq-eqb, ne_eqb, eqb-true, eqb-false}
use lib.Dec.{eqb}
use lib.ListN.{length, drop, get_or, drop_of_length-le}
use Rattle.std.specs.Prelude.{Option, Some, None}
use Rattle.std.specs.Option.{option_eq}
use Rattle.words.proofs.Parts.{next}
use Rattle.entry.specs.Word.{offer_of}
use Rattle.sheet.specs.Sheet.{Row, row_of, joined, rows_of}
use Rattle.sheet.proofs.Clauses.{rows_none, rows_more}
use Rattle.sheet.proofs.GoodRows.{joined_by}

-- how many rows begin behind a word of row `last`: its own row goes on, or all are new
unfoldable pub begun : ℕ → List Row → ℕ
begun last [] = 0
begun last (r ∷ rs) = cond (eqb last r.number) (length rs) (suc (length rs))

-- one word more in front
begun-joined : (last w : ℕ) (rs : List Row)
    → begun last (joined w rs) ≡ cond (eqb last (row_of (offer_of w))) (begun (row_of (offer_of w)) rs)
    (suc (begun (row_of (offer_of w)) rs))
unfolding begun
begun-joined last w [] = refl
begun-joined last w (r ∷ rs) =
    joined_by w (λ (l : List Row). begun last l
    ≡ cond (eqb last (row_of (offer_of w))) (begun (row_of (offer_of w)) (r ∷ rs)) (suc (begun (row_of (offer_of w)) (r ∷ rs)))) r rs
    (λ e. rw (eq-eqb (row_of (offer_of w)) r.number e, e)) (λ n. rw (ne_eqb (row_of (offer_of w)) r.number n))

-- behind no word each row is new
all_begun : (w : ℕ) (rs : List Row) → length (joined w rs) ≡ suc (begun (row_of (offer_of w)) rs)
unfolding begun
all_begun w [] = refl
all_begun w (r ∷ rs) =
    joined_by w (λ (l : List Row). length l ≡ suc (begun (row_of (offer_of w)) (r ∷ rs))) r rs
    (λ e. rw (eq-eqb (row_of (offer_of w)) r.number e)) (λ n. rw (ne_eqb (row_of (offer_of w)) r.number n))

-- how many rows begin behind the row of the word before, or behind no word
unfoldable pub behind : Option ℕ → List Row → ℕ
behind None rs = length rs
behind (Some last) rs = begun last rs

pub behind_none : (rs : List Row) → behind None rs ≡ length rs
unfolding behind
behind_none rs = refl

-- as a loop meets them: the words from the i-th on
module _ (m : List ℕ) (i : ℕ) where
  pub behind_end : (last : Option ℕ) → length m ≤ i → behind last (rows_of (drop i m)) ≡ 0
  unfolding behind begun
  behind_end last h = ap (λ (l : List ℕ). behind last (rows_of l)) (drop_of_length-le m h) ∙ ap (behind last) rows_none ∙ none last
    where
      none : (o : Option ℕ) → behind o [] ≡ 0
      none None = refl
      none (Some n) = refl

  module _ (h : i < length m) where
    rows_next : rows_of (drop i m) ≡ joined (get_or m i 0) (rows_of (drop (i + 1) m))
    rows_next = ap rows_of (next m i h) ∙ rows_more (get_or m i 0) (drop (i + 1) m)

    -- the word's row is the one before it, or a new one
    module _ (row : ℕ) (r : row ≡ row_of (offer_of (get_or m i 0))) where
      pub behind_same : (last : Option ℕ) → option_eq eqb (Some row) last ≡ true
          → behind last (rows_of (drop i m)) ≡ behind last (rows_of (drop (i + 1) m))
      unfolding behind
      behind_same None e = absurd (let z : ◌≡◌ {A = ℕ} 0 1 = cc in omega arith)
      behind_same (Some last) e =
          let same : last ≡ row = sym (eqb-true row last e) in
          ap (begun last) rows_next
          ∙ begun-joined last (get_or m i 0) (rows_of (drop (i + 1) m))
          ∙ rw (eq-eqb last (row_of (offer_of (get_or m i 0))) (same ∙ r))
          (ap (λ (n : ℕ). begun n (rows_of (drop (i + 1) m))) (sym (same ∙ r)))

      pub behind_new : (last : Option ℕ) → option_eq eqb (Some row) last ≡ false
          → behind last (rows_of (drop i m)) ≡ suc (behind (Some row) (rows_of (drop (i + 1) m)))
      unfolding behind
      behind_new None e = ap length rows_next ∙ all_begun (get_or m i 0) (rows_of (drop (i + 1) m)) ∙ rw (← r)
      behind_new (Some last) e =
          ap (begun last) rows_next
          ∙ begun-joined last (get_or m i 0) (rows_of (drop (i + 1) m))
          ∙ rw (ne_eqb last (row_of (offer_of (get_or m i 0))) (λ s. eqb-false row last e (r ∙ sym s)), ← r)
