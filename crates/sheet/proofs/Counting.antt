-- The test of a sheet and the count of its offers, as a loop over the rows meets them.
-- Assumes nothing.
use mathlib.Core.Path.{◌≡◌, refl, sym, ap, ap₂, ◌∙◌}
use mathlib.Core.Bool.{Bool, true, false, cond, ◌&&◌}
use mathlib.Core.List.{List}
use Prim.Native.Nat.{ℕ, suc, ◌+◌, ◌-◌, ◌*◌, ◌/◌, ◌^◌, ◌≤◌, ◌<◌}
use native.Mathlib.Omega.{arith}
use borrow.Author.Tests.{eq-eqb, ne_eqb}
use lib.Dec.{eqb}
use lib.ListN.{length, drop, length-append, length-drop}
use Rattle.std.specs.Prelude.{Option, Some, None}
use Rattle.changes.specs.Lists.{All}
use Rattle.changes.proofs.Each.{all_drop}
use Rattle.big_endian.specs.Bytes.{Byte}
use Rattle.sheet.specs.Sheet.{set_bits, seat_words, tag_in, mask_in, row_in, row_size, is_row, are_rows, row_count_in, is_sheet, words_in}
use Rattle.sheet.proofs.Clauses.{left_words, left_none, left_more, test_none, test_more, words_in_lem}
use Rattle.sheet.proofs.Seats.{row_length}
use Rattle.sheet.proofs.SheetTest.{facts_bytes, row_facts, mask_small, sheet_long}

-- how many words some rows at the start of bytes have
abbrev pub word_count : ℕ → List ℕ → ℕ
word_count n b = length (left_words n b)

count_more : (n : ℕ) (b : List ℕ) → mask_in b < 2 ^ 32
    → word_count (suc n) b ≡ set_bits (mask_in b) + word_count n (drop (row_size (mask_in b)) b)
count_more n b h =
    ap length (left_more n b)
    ∙ length-append (seat_words (row_in b) 32) (left_words n (drop (row_size (mask_in b)) b))
    ∙ ap (λ (m : ℕ). m + word_count n (drop (row_size (mask_in b)) b)) (row_length (row_in b) h)

-- A loop over the rows: those that are left are good exactly when the bytes are a sheet, and the bytes before them are the sheet's header,
-- a header a row, and a price for each word that is not left.
pub record Counting (b left : List ℕ) (rows least row : ℕ) : Type 0 where
  pub all : rows ≡ row_count_in b
  pub inside : row ≤ rows
  pub small : All Byte left
  pub tested : are_rows (rows - row) least left ≡ is_sheet b
  pub counted : length b + 4 * word_count (rows - row) left ≡ length left + 8 + 8 * row + 4 * length (words_in b)

pub Counting-all : (b : List ℕ) (rows : ℕ) → rows ≡ row_count_in b → All Byte b → 8 ≤ length b → Counting b (drop 8 b) rows 0 0
Counting-all b rows a e h =
    let all : rows - 0 ≡ row_count_in b = omega arith in
    record {
      all = a;
      inside = omega arith;
      small = all_drop Byte 8 b e;
      tested = ap (λ (n : ℕ). are_rows n 0 (drop 8 b)) all ∙ sym (sheet_long b (facts_bytes b e) h);
      counted = omega (arith, ap (λ (n : ℕ). word_count n (drop 8 b)) all, ap length (words_in_lem b), length-drop 8 b);
    }

-- the row at the start of some bytes, if one stands there: its number and its size
abbrev pub row_there : ℕ → List ℕ → Option (ℕ × ℕ)
row_there least b = cond (is_row least b) (Some (tag_in b / 64, row_size (mask_in b))) None

-- what that says of the test
chosen_none : (t : Bool) (r : ℕ × ℕ) → cond {A = Option (ℕ × ℕ)} t (Some r) None ≡ None → t ≡ false
chosen_none true r e = absurd (let z : ◌≡◌ {A = ℕ} 0 1 = cc in omega arith)
chosen_none false r e = refl

chosen_some : (t : Bool) (n s n' s' : ℕ) → cond {A = Option (ℕ × ℕ)} t (Some (n, s)) None ≡ Some (n', s') → (t ≡ true) × (n' ≡ n) × (s' ≡ s)
chosen_some true n s n' s' e =
    let same : (n, s) ≡ (n', s') = cc in
    (refl, sym (ap (λ (p : ℕ × ℕ). p.0) same), sym (ap (λ (p : ℕ × ℕ). p.1) same))
chosen_some false n s n' s' e = absurd (let z : ◌≡◌ {A = ℕ} 0 1 = cc in omega arith)

module _ {b left : List ℕ} {rows least row : ℕ} (t : Counting b left rows least row) where
  module _ (h : row < rows) where
    more : rows - row ≡ suc (rows - (row + 1))
    more = omega arith

    test_here : (is_row least left && are_rows (rows - (row + 1)) (tag_in left / 64 + 1) (drop (row_size (mask_in left)) left)) ≡ is_sheet b
    test_here = sym (test_more (rows - (row + 1)) least left) ∙ ap (λ (n : ℕ). are_rows n least left) (sym more) ∙ t.tested

    pub refused : row_there least left ≡ None → is_sheet b ≡ false
    refused e = sym test_here ∙ rw (chosen_none (is_row least left) (tag_in left / 64, row_size (mask_in left)) e)

    -- a row stands at the start of what is left
    module _ (number size : ℕ) (e : row_there least left ≡ Some (number, size)) where
      good : (is_row least left ≡ true) × (number ≡ tag_in left / 64) × (size ≡ row_size (mask_in left))
      good = chosen_some (is_row least left) (tag_in left / 64) (row_size (mask_in left)) number size e

      room : size ≤ length left
      room = omega (arith, good.2, (row_facts least left good.0).room)

      pub passed : Counting b (drop size left) rows (number + 1) (row + 1)
      passed =
          let count = count_more (rows - (row + 1)) left (mask_small left t.small) in
          record {
            all = t.all;
            inside = omega arith;
            small = all_drop Byte size left t.small;
            tested =
                ap₂ (λ (k s : ℕ). are_rows (rows - (row + 1)) (k + 1) (drop s left)) good.1 good.2
                ∙ (rw good.0 at test_here);
            counted =
                omega (
                  arith,
                  t.counted,
                  good.2,
                  room,
                  count,
                  length-drop size left,
                  ap (λ (n : ℕ). word_count n left) more,
                  ap (λ (s : ℕ). word_count (rows - (row + 1)) (drop s left)) good.2,
                );
          }

  -- no row is left
  module _ (h : rows ≤ row) where
    none : rows - row ≡ 0
    none = omega arith

    last : eqb (length left) 0 ≡ is_sheet b
    last = sym (test_none least left) ∙ ap (λ (n : ℕ). are_rows n least left) (sym none) ∙ t.tested

    pub left_over : (length left ≡ 0 → ⊥) → is_sheet b ≡ false
    left_over n = sym last ∙ ne_eqb (length left) 0 n

    pub all_read : length left ≡ 0 → is_sheet b ≡ true
    all_read e = sym last ∙ eq-eqb (length left) 0 e

    pub all_counted : length left ≡ 0 → length b ≡ 8 + 8 * row + 4 * length (words_in b)
    all_counted e = omega (arith, t.counted, ap (λ (n : ℕ). word_count n left) none, ap length (left_none left))
