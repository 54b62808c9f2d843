-- The test of a sheet, as facts: what holds of bytes that pass it, and what of bytes that are too short.
-- Assumes nothing.
use mathlib.Core.Path.{◌≡◌, refl, sym, ◌∙◌}
use mathlib.Core.Bool.{true, false, not, ◌&&◌}
use mathlib.Core.List.{List, [], ◌∷◌}
use Prim.Native.Nat.{ℕ, suc, ◌+◌, ◌/◌, ◌%◌, ◌^◌, ◌≤◌, ◌<◌}
use native.Mathlib.Omega.{arith}
use borrow.Author.Tests.{eq-eqb, ne_eqb, eqb-true, eqb-false, le-leb, lt-leb, leb-true, lt-ltb, ltb-true, not-true}
use lib.Dec.{eqb, leb, ltb}
use lib.ListN.{length, drop}
use Rattle.changes.specs.Lists.{All}
use Rattle.changes.proofs.Each.{all_drop}
use Rattle.changes.proofs.ListTest.{and_both}
use Rattle.big_endian.specs.Bytes.{Byte}
use Rattle.big_endian.proofs.Fields.{value_first}
use Rattle.sheet.specs.Sheet.{row_count_in, tag_in, mask_in, row_size, is_row, are_rows, are_bytes, is_sheet}
use Rattle.sheet.proofs.Clauses.{test_none, test_more}

-- numbers that are bytes
bytes_facts : (b : List ℕ) → are_bytes b ≡ true → All Byte b
unfolding are_bytes All
bytes_facts [] e = tt
bytes_facts (n ∷ b) e =
    let both = and_both (ltb n 256) (are_bytes b) e in
    (ltb-true _ _ both.0, bytes_facts b both.1)

pub facts_bytes : (b : List ℕ) → All Byte b → are_bytes b ≡ true
unfolding are_bytes All
facts_bytes [] h = refl
facts_bytes (n ∷ b) h = rw (lt-ltb n 256 h.0, facts_bytes b h.1)

pub mask_small : (b : List ℕ) → All Byte b → mask_in b < 2 ^ 32
mask_small b h = value_first 4 (drop 4 b) (all_drop Byte 4 b h)

-- what holds of bytes that a row stands at the start of
pub record RowAt (least : ℕ) (b : List ℕ) : Type 0 where
  pub long : 8 ≤ length b
  pub tagged : tag_in b % 64 ≡ 0
  pub rises : least ≤ tag_in b / 64
  pub some : 0 < mask_in b
  pub room : row_size (mask_in b) ≤ length b

pub row_facts : (least : ℕ) (b : List ℕ) → is_row least b ≡ true → RowAt least b
unfolding is_row
row_facts least b e =
    let first = leb 8 (length b) in
    let second = eqb (tag_in b % 64) 0 in
    let third = leb least (tag_in b / 64) in
    let fourth = not (eqb (mask_in b) 0) in
    let four = and_both (first && second && third && fourth) (leb (row_size (mask_in b)) (length b)) e in
    let three = and_both (first && second && third) fourth four.0 in
    let two = and_both (first && second) third three.0 in
    let one = and_both first second two.0 in
    let seats : mask_in b ≡ 0 → ⊥ = eqb-false _ _ (not-true _ three.1) in
    record {
      long = leb-true _ _ one.0;
      tagged = eqb-true _ _ one.1;
      rises = leb-true _ _ two.1;
      some = omega (arith, seats);
      room = leb-true _ _ four.1;
    }

pub facts_row : (least : ℕ) (b : List ℕ) → RowAt least b → is_row least b ≡ true
unfolding is_row
facts_row least b r =
    rw (
      le-leb 8 (length b) r.long,
      eq-eqb (tag_in b % 64) 0 r.tagged,
      le-leb least (tag_in b / 64) r.rises,
      ne_eqb (mask_in b) 0 (λ e. omega (arith, r.some, e)),
      le-leb (row_size (mask_in b)) (length b) r.room,
    )

-- rows, one by one
pub none_left : (least : ℕ) (b : List ℕ) → are_rows 0 least b ≡ true → length b ≡ 0
none_left least b e = eqb-true (length b) 0 (sym (test_none least b) ∙ e)

pub rows_facts : (n least : ℕ) (b : List ℕ) → are_rows (suc n) least b ≡ true
    → (is_row least b ≡ true) × (are_rows n (tag_in b / 64 + 1) (drop (row_size (mask_in b)) b) ≡ true)
rows_facts n least b e =
    and_both (is_row least b) (are_rows n (tag_in b / 64 + 1) (drop (row_size (mask_in b)) b)) (sym (test_more n least b) ∙ e)

-- what holds of a sheet
pub record Sheet (b : List ℕ) : Type 0 where
  pub small : All Byte b
  pub long : 8 ≤ length b
  pub rows : are_rows (row_count_in b) 0 (drop 8 b) ≡ true

pub Sheet-facts : (b : List ℕ) → is_sheet b ≡ true → Sheet b
unfolding is_sheet
Sheet-facts b e =
    let all = and_both (are_bytes b && leb 8 (length b)) (are_rows (row_count_in b) 0 (drop 8 b)) e in
    let first = and_both (are_bytes b) (leb 8 (length b)) all.0 in
    record {
      small = bytes_facts b first.0;
      long = leb-true _ _ first.1;
      rows = all.1;
    }

pub has_header : (b : List ℕ) → is_sheet b ≡ true → 8 ≤ length b
has_header b e = (Sheet-facts b e).long

-- no header, or one with rows behind it that are to be tested
pub sheet_short : (b : List ℕ) → are_bytes b ≡ true → length b < 8 → is_sheet b ≡ false
unfolding is_sheet
sheet_short b e h = rw (e, lt-leb 8 (length b) h)

pub sheet_long : (b : List ℕ) → are_bytes b ≡ true → 8 ≤ length b → is_sheet b ≡ are_rows (row_count_in b) 0 (drop 8 b)
unfolding is_sheet
sheet_long b e h = rw (e, le-leb 8 (length b) h)

pub facts_Sheet : (b : List ℕ) → Sheet b → is_sheet b ≡ true
facts_Sheet b s = sheet_long b (facts_bytes b s.small) s.long ∙ s.rows
