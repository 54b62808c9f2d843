-- A sheet as it is stored: the state number and the count of rows, then row behind row.
-- Assumes nothing.
use mathlib.Core.Path.{◌≡◌, refl, sym, ap, ap₂, ◌∙◌}
use mathlib.Core.List.{List, [], ◌∷◌, ◌++◌, append_assoc}
use Prim.Native.Nat.{ℕ, ◌+◌, ◌-◌, ◌*◌, ◌≤◌, ◌<◌}
use native.Mathlib.Omega.{arith}
use borrow.Rule.Slice.PartMut.{put_mid}
use lib.ListN.{length, take, drop, length-drop, length-map}
use lib.Seq.{length-take-le, take_at, drop_at, get_or-take, drop-drop}
use Rattle.std.proofs.lemmas.List.{nil_from_length}
use Rattle.words.proofs.Parts.{part, put_part}
use Rattle.words.proofs.Writing.{Writing, start, unwritten}
use Rattle.words.proofs.Pieces.{start_at, wrote_piece}
use Rattle.entry.specs.Word.{offer_of, price_of}
use Rattle.changes.specs.Lists.{From}
use Rattle.big_endian.specs.Bytes.{bytes_of}
use Rattle.big_endian.proofs.Bytes.{length_bytes}
use Rattle.sheet.specs.Runs.{row_number, run_row}
use Rattle.sheet.specs.Sheet.{row_of, rows_of, row_bytes, rows_bytes, sheet_of, sheet_size}
use Rattle.sheet.proofs.Clauses.{rows_none, row_bytes_parts, rows_bytes_none, rows_bytes_more, sheet_parts, sheet_size_lem}
use Rattle.sheet.proofs.Passing.{From-drop}
use Rattle.sheet.proofs.Prices.{price_bytes, SeatsPut}
use Rattle.sheet.proofs.RowBytes.{row_bytes-length}
use Rattle.sheet.proofs.RowRuns.{some_row}

-- a row: its number, and then its mask and its prices

-- the row is stored: what is so of its words, and of the bytes
abbrev RowPut : List ℕ → List ℕ → List ℕ → ℕ → Type 0
RowPut words out last count =
    (0 < count)
    × (count ≤ length words)
    × (rows_of words ≡ run_row (take count words) ∷ rows_of (drop count words))
    × (last ≡ row_bytes (run_row (take count words)) ++ drop (8 + 4 * count) out)

module _ (words out : List ℕ) (room : 8 + 4 * length words ≤ length out) (number mask count : ℕ) (one last : List ℕ) where
  pub row_stored :
      number ≡ row_number words
      → one ≡ bytes_of 4 (number * 64) ++ drop 4 out
      → SeatsPut words one last mask count
      → RowPut words out last count
  row_stored e f p =
      let run = take count words in
      let tag = bytes_of 4 (number * 64) in
      let prices = price_bytes (take count words) in
      let rest = drop (8 + 4 * count) out in
      let seam : length (bytes_of 4 (number * 64)) ≡ 4 = length_bytes 4 (number * 64) in
      let front : take 4 one ≡ bytes_of 4 (number * 64) = ap (take 4) f ∙ take_at tag (drop 4 out) 4 seam in
      let on : 4 + (4 + 4 * count) ≡ 8 + 4 * count = omega arith in
      let behind : drop (8 + 4 * count) one ≡ drop (8 + 4 * count) out =
      ap (λ (k : ℕ). drop k one) (sym on)
      ∙ sym (drop-drop (4 + 4 * count) 4 one)
      ∙ ap (drop (4 + 4 * count)) (ap (drop 4) f ∙ drop_at tag (drop 4 out) 4 seam)
      ∙ drop-drop (4 + 4 * count) 4 out
      ∙ ap (λ (k : ℕ). drop k out) on in
      let own : number ≡ row_number (take count words) = e ∙ ap (λ (w : ℕ). row_of (offer_of w)) (sym (get_or-take count words 0 0 p.0)) in
      let whole : bytes_of 4 (number * 64) ++ bytes_of 4 mask ++ price_bytes (take count words) ≡ row_bytes (run_row (take count words)) =
      (λ i. bytes_of 4 (own i * 64) ++ bytes_of 4 (p.2 i) ++ price_bytes (take count words)) ∙ sym (row_bytes_parts (run_row run)) in (
        p.0,
        p.1,
        p.3,
        p.4
            ∙ ap₂ (λ (a c : List ℕ). a ++ bytes_of 4 mask ++ prices ++ c) front behind
            ∙ ap (λ (b : List ℕ). b ++ rest) whole,
      )

-- the header

module _ (out : List ℕ) (state rows : ℕ) (words : List ℕ) (room : 8 ≤ length out) (mid last : List ℕ) where
  pub header_stored :
      rows ≡ length (rows_of words)
      → mid ≡ bytes_of 4 state ++ drop 4 out
      → last ≡ take 4 mid ++ bytes_of 4 rows ++ drop 8 mid
      → Writing last out 8 (rows_bytes (rows_of words)) (sheet_of state words)
  header_stored r e f =
      let behind = bytes_of 4 rows ++ rows_bytes (rows_of words) in
      let whole : sheet_of state words ≡ bytes_of 4 state ++ (bytes_of 4 rows ++ rows_bytes (rows_of words)) =
      sheet_parts state words
      ∙ ap (λ (n : ℕ). bytes_of 4 state ++ bytes_of 4 n ++ rows_bytes (rows_of words)) (sym r)
      ∙ append_assoc (bytes_of 4 state) (bytes_of 4 rows) (rows_bytes (rows_of words)) in
      let first = wrote_piece (start out (sheet_of state words)) (bytes_of 4 state) behind whole 4
      (omega (arith, length_bytes 4 state)) (omega arith) e in
      wrote_piece first (bytes_of 4 rows) (rows_bytes (rows_of words)) refl 8
      (omega (arith, length_bytes 4 rows)) (omega (arith, first.same)) f

-- row behind row

-- the rows of the words that are left are to be written
pub record Rows (words out out₀ left : List ℕ) (at : ℕ) : Type 0 where
  pub rises : From 0 left
  pub header : 8 ≤ at
  pub size : at + 8 * length (rows_of left) + 4 * length left ≡ sheet_size words
  pub room : sheet_size words ≤ length out₀
  pub written : Writing out out₀ at (rows_bytes (rows_of left)) (take 8 out₀ ++ rows_bytes (rows_of words))

pub none_written : (words out : List ℕ) → From 0 words → sheet_size words ≤ length out → Rows words out out words 8
none_written words out f h =
    record {
      rises = f;
      header = omega arith;
      size = omega (arith, sheet_size_lem words);
      room = h;
      written = start_at out (rows_bytes (rows_of words)) 8 (omega (arith, sheet_size_lem words));
    }

module _ {words out out₀ left : List ℕ} {at : ℕ} (h : Rows words out out₀ left at) where
  pub rows_end : length left ≡ 0 → (at ≡ sheet_size words) × Writing out out₀ at [] (take 8 out₀ ++ rows_bytes (rows_of words))
  rows_end l =
      let none : rows_of left ≡ [] = ap rows_of (nil_from_length left l) ∙ rows_none in
      (omega (arith, h.size, ap length none), unwritten h.written (ap rows_bytes none ∙ rows_bytes_none))

  module _ (l : length left ≡ 0 → ⊥) where
    some_left : 0 < length (rows_of left)
    some_left = some_row left (omega (arith, l))

    -- what is asked of the words, and of the part of the bytes behind what is written
    pub row_asked : From 0 left × (0 < length left) × (8 + 4 * length left ≤ length (take (length out - at) (drop at out)))
    row_asked = (
      h.rises,
      omega (arith, l),
      rw (part out at) (omega (arith, length-drop at out, some_left, h.size, h.room, h.written.same)),
    )

    -- the first row is stored in that part
    module _ (count : ℕ) (last : List ℕ) (r : RowPut left (take (length out - at) (drop at out)) last count) where
      stored_are : put_mid at (length out - at) out last ≡ take at out ++ row_bytes (run_row (take count left))
          ++ drop (at + (8 + 4 * count)) out
      stored_are =
          put_part out last at h.written.within
          ∙ ap (λ (b : List ℕ). take at out ++ b) (r.3
          ∙ ap (λ (b : List ℕ). row_bytes (run_row (take count left)) ++ b)
          (ap (drop (8 + 4 * count)) (part out at) ∙ drop-drop (8 + 4 * count) at out))
          ∙ sym (append_assoc (take at out) (row_bytes (run_row (take count left))) (drop (at + (8 + 4 * count)) out))

      pub row_written : Rows words (put_mid at (length out - at) out last) out₀ (drop count left) (at + (8 + 4 * count))
      row_written =
          let run = take count left in
          let long : length (row_bytes (run_row (take count left))) ≡ 8 + 4 * count =
          row_bytes-length (run_row (take count left))
          ∙ ap (λ (k : ℕ). 8 + 4 * k) (length-map (take count left) price_of ∙ length-take-le count left r.1) in
          record {
            rises = From-drop count 0 left h.rises;
            header = omega (arith, h.header);
            size = omega (arith, h.size, ap length r.2, length-drop count left, r.1);
            room = h.room;
            written = wrote_piece h.written (row_bytes (run_row run)) (rows_bytes (rows_of (drop count left)))
                (ap rows_bytes r.2 ∙ rows_bytes_more (run_row run) (rows_of (drop count left)))
                (at + (8 + 4 * count)) (omega (arith, long))
                (omega (arith, h.size, h.room, h.written.same, ap length r.2, r.1))
                stored_are;
          }
