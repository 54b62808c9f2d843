-- A sheet that is read: the loop over its rows.
-- Assumes nothing.
use mathlib.Core.Path.{◌≡◌, sym, ap, ◌∙◌}
use mathlib.Core.Bool.{true}
use mathlib.Core.List.{List, ◌++◌, append_assoc}
use Prim.Native.Nat.{ℕ, suc, ◌+◌, ◌-◌, ◌*◌, ◌/◌, ◌≤◌, ◌<◌}
use native.Mathlib.Omega.{arith}
use borrow.Rule.Slice.PartMut.{put_mid, same_len_mid}
use lib.ListN.{length, take, drop, length-append, length-drop}
use lib.Seq.{drop-drop}
use Rattle.words.proofs.Parts.{part, put_part}
use Rattle.words.proofs.Writing.{Writing, start, unwritten, size, done}
use Rattle.words.proofs.Pieces.{wrote_piece}
use Rattle.changes.specs.Lists.{All}
use Rattle.changes.proofs.Each.{all_drop}
use Rattle.big_endian.specs.Bytes.{Byte}
use Rattle.sheet.specs.Sheet.{set_bits, seat_words, tag_in, mask_in, row_in, row_size, is_row, are_rows, row_count_in, is_sheet, words_in}
use Rattle.sheet.proofs.Clauses.{left_words, left_none, left_more, words_in_lem}
use Rattle.sheet.proofs.Seats.{row_length}
use Rattle.sheet.proofs.SheetTest.{mask_small, row_facts, rows_facts, Sheet-facts}

-- A loop over the rows: those that are left are good, and what is written with their words behind it is the sheet's words.
pub record Reading (b out out₀ left : List ℕ) (rows from row : ℕ) : Type 0 where
  pub inside : row ≤ rows
  pub room : length (words_in b) ≤ length out
  pub small : All Byte left
  pub least : ℕ
  pub good : are_rows (rows - row) least left ≡ true
  pub writing : Writing out out₀ from (left_words (rows - row) left) (words_in b)

pub Reading-all : (b out : List ℕ) (rows : ℕ) → rows ≡ row_count_in b → is_sheet b ≡ true → length (words_in b) ≤ length out
    → Reading b out out (drop 8 b) rows 0 0
Reading-all b out rows a e h =
    let all : row_count_in b ≡ rows - 0 = omega arith in
    record {
      inside = omega arith;
      room = h;
      small = all_drop Byte 8 b (Sheet-facts b e).small;
      least = 0;
      good = ap (λ (n : ℕ). are_rows n 0 (drop 8 b)) (sym all) ∙ (Sheet-facts b e).rows;
      writing = unwritten (start out (words_in b)) (words_in_lem b ∙ ap (λ (n : ℕ). left_words n (drop 8 b)) all);
    }

module _ {b out out₀ left : List ℕ} {rows from row : ℕ} (t : Reading b out out₀ left rows from row) where
  module _ (h : row < rows) where
    abbrev behind : List ℕ
    behind = drop (row_size (mask_in left)) left

    more : rows - row ≡ suc (rows - (row + 1))
    more = omega arith

    tests : (is_row t.least left ≡ true) × (are_rows (rows - (row + 1)) (tag_in left / 64 + 1) behind ≡ true)
    tests = rows_facts (rows - (row + 1)) t.least left (ap (λ (n : ℕ). are_rows n t.least left) (sym more) ∙ t.good)

    words_here : left_words (rows - row) left ≡ seat_words (row_in left) 32 ++ left_words (rows - (row + 1)) behind
    words_here = ap (λ (n : ℕ). left_words n left) more ∙ left_more (rows - (row + 1)) left

    -- as many words as the mask has set bits
    words_length : length (seat_words (row_in left) 32) ≡ set_bits (mask_in left)
    words_length = row_length (row_in left) (mask_small left t.small)

    room_for_row : from + set_bits (mask_in left) ≤ length out
    room_for_row =
        let parts = ap length words_here ∙ length-append (seat_words (row_in left) 32) (left_words (rows - (row + 1)) behind) in
        omega (arith, parts, words_length, size t.writing, t.room)

    -- what is asked of the row and of the part of the table behind what is written
    pub row_asked : (0 < mask_in left)
        × (row_size (mask_in left) ≤ length left)
        × (set_bits (mask_in left) ≤ length (take (length out - from) (drop from out)))
    row_asked =
        let facts = row_facts t.least left tests.0 in
        (facts.some, facts.room, rw (part out from) (omega (arith, room_for_row, length-drop from out)))

    -- the row's words are stored in that part
    module _ (count : ℕ) (last : List ℕ)
        (s : (count ≡ set_bits (mask_in left))
        × (last ≡ seat_words (row_in left) 32 ++ drop count (take (length out - from) (drop from out))))
        (same : length last ≡ length (take (length out - from) (drop from out))) where
      row_size_is : row_size (mask_in left) ≡ 8 + 4 * count
      row_size_is = omega (arith, s.0)

      stored_are : put_mid from (length out - from) out last ≡ take from out ++ seat_words (row_in left) 32 ++ drop (from + count) out
      stored_are =
          put_part out last from t.writing.within
          ∙ ap (λ (l : List ℕ). take from out ++ l) (s.1
          ∙ ap (λ (l : List ℕ). seat_words (row_in left) 32 ++ l) (ap (drop count) (part out from) ∙ drop-drop count from out))
          ∙ sym (append_assoc (take from out) (seat_words (row_in left) 32) (drop (from + count) out))

      stored_length : length (put_mid from (length out - from) out last) ≡ length out
      stored_length = same_len_mid from (length out - from) out last same

      pub words_stored : Reading b (put_mid from (length out - from) out last) out₀ (drop (8 + 4 * count) left) rows
          (from + count) (row + 1)
      words_stored =
          let piece = seat_words (row_in left) 32 in
          let rest = left_words (rows - (row + 1)) (drop (8 + 4 * count) left) in
          let words : left_words (rows - row) left ≡ piece ++ rest =
          words_here ∙ ap (λ (n : ℕ). piece ++ left_words (rows - (row + 1)) (drop n left)) row_size_is in
          record {
            inside = omega arith;
            room = omega (arith, stored_length, t.room);
            small = all_drop Byte (8 + 4 * count) left t.small;
            least = tag_in left / 64 + 1;
            good = ap (λ (n : ℕ). are_rows (rows - (row + 1)) (tag_in left / 64 + 1) (drop n left)) (sym row_size_is) ∙ tests.1;
            writing =
                wrote_piece t.writing piece rest words (from + count) (ap (λ (n : ℕ). from + n) (s.0 ∙ sym words_length))
                (omega (arith, room_for_row, s.0)) stored_are;
          }

  -- no row is left
  pub reading_done : rows ≤ row → out ≡ words_in b ++ drop (length (words_in b)) out₀
  reading_done h =
      let none : rows - row ≡ 0 = omega arith in
      done t.writing (ap (λ (n : ℕ). left_words n left) none ∙ left_none left)
