-- The rows of words of which the first ones are of one row: that row, and behind it the rows of the other words.
-- Assumes nothing.
use mathlib.Core.Path.{◌≡◌, refl, sym, ap, subst, ◌∙◌}
use mathlib.Core.Logic.{◌≢◌}
use mathlib.Core.List.{List, [], ◌∷◌, ◌++◌, map}
use Prim.Native.Nat.{ℕ, zero, suc, ◌≤◌, ◌<◌}
use native.Mathlib.Nat.{add-zero}
use native.Mathlib.Omega.{arith}
use lib.ListN.{length, take, drop, get_or, take-append-drop}
use Rattle.entry.specs.Word.{offer_of, price_of}
use Rattle.changes.specs.Lists.{All}
use Rattle.sheet.specs.Runs.{InRow, row_number, bits_of, run_row}
use Rattle.sheet.specs.Sheet.{Row, row_of, seat_bit, alone, extended, joined, rows_of}
use Rattle.sheet.proofs.Clauses.{rows_none, rows_more}
use Rattle.sheet.proofs.GoodRows.{joined_same, joined_apart, joined_by}

-- the first row of words is that of the first word
first_row : (w : ℕ) (rs : List Row) → (r : Row) × (behind : List Row) × (joined w rs ≡ r ∷ behind) × (r.number ≡ row_of (offer_of w))
first_row w [] = (alone w, [], refl, refl)
first_row w (r ∷ rs) =
    joined_by w (λ (l : List Row). (s : Row) × (behind : List Row) × (l ≡ s ∷ behind) × (s.number ≡ row_of (offer_of w))) r rs
    (λ e. (extended w r, rs, refl, sym e)) (λ n. (alone w, r ∷ rs, refl, refl))

-- the first word, if there is one, is of another row than n
abbrev Apart : ℕ → List ℕ → Type 0
Apart n [] = Unit
Apart n (w ∷ l) = row_of (offer_of w) ≢ n

row_begun : (w : ℕ) (l : List ℕ) → Apart (row_of (offer_of w)) l → joined w (rows_of l) ≡ alone w ∷ rows_of l
row_begun w [] a = rw rows_none
row_begun w (v ∷ l) a =
    let f = first_row v (rows_of l) in
    let whole = rows_more v l ∙ f.2 in
    ap (joined w) whole
    ∙ joined_apart w f.0 f.1 (λ e. a (sym f.3 ∙ sym e))
    ∙ ap (λ (rs : List Row). alone w ∷ rs) (sym whole)

-- a run, and behind it words of which the first is of another row
run_before : (n : ℕ) (w : ℕ) (l rest : List ℕ) → All (InRow n) (w ∷ l) → Apart n rest
    → rows_of ((w ∷ l) ++ rest) ≡ record { number = n; mask = bits_of (w ∷ l); prices = map price_of (w ∷ l) } ∷ rows_of rest
unfolding All rows_of bits_of
run_before n w [] rest a p =
    row_begun w rest (subst (λ (k : ℕ). Apart k rest) (sym a.0) p)
    ∙ (λ i. record { number = a.0 i; mask = sym (add-zero (seat_bit (offer_of w))) i; prices = price_of w ∷ [] } ∷ rows_of rest)
run_before n w (v ∷ l) rest a p =
    ap (joined w) (run_before n v l rest a.1 p)
    ∙ joined_same w (record { number = n; mask = bits_of (v ∷ l); prices = map price_of (v ∷ l) }) (rows_of rest) a.0

Apart-at : (n : ℕ) (l : List ℕ) (k : ℕ) → (k < length l → row_of (offer_of (get_or l k 0)) ≢ n) → Apart n (drop k l)
Apart-at n [] zero h = tt
Apart-at n [] (suc k) h = tt
Apart-at n (w ∷ l) zero h = h (omega arith)
Apart-at n (w ∷ l) (suc k) h = Apart-at n l k (λ i. h (omega arith))

-- the words from the first up to one of another row are the first row
pub run_first : (l : List ℕ) (k : ℕ) → 0 < k → k ≤ length l → All (InRow (row_number l)) (take k l)
    → (k < length l → row_of (offer_of (get_or l k 0)) ≢ row_number l) → rows_of l ≡ run_row (take k l) ∷ rows_of (drop k l)
run_first l zero h i a p = absurd (omega arith)
run_first [] (suc k) h i a p = absurd (omega arith)
run_first (w ∷ l) (suc k) h i a p =
    ap rows_of (sym (take-append-drop (suc k) (w ∷ l)))
    ∙ run_before (row_number (w ∷ l)) w (take k l) (drop (suc k) (w ∷ l)) a (Apart-at (row_number (w ∷ l)) (w ∷ l) (suc k) p)

-- words have a row if there are any
pub some_row : (l : List ℕ) → 0 < length l → 0 < length (rows_of l)
some_row [] h = absurd (omega arith)
some_row (w ∷ l) h = omega (arith, ap length (rows_more w l ∙ (first_row w (rows_of l)).2))
