-- Rows and their bytes, there and back.
-- Assumes nothing.
use mathlib.Core.Path.{◌≡◌, refl, sym, ap, ap₂, subst, ◌∙◌}
use mathlib.Core.Bool.{Bool, true, ◌&&◌}
use mathlib.Core.List.{List, [], ◌∷◌, ◌++◌, append_assoc}
use Prim.Native.Nat.{ℕ, zero, suc, ◌+◌, ◌*◌, ◌/◌, ◌^◌, ◌≤◌, ◌<◌}
use native.Mathlib.Omega.{arith}
use borrow.Author.Tests.{eq-eqb}
use lib.ListN.{length, take, drop, length-append, length-drop, take-append-drop}
use lib.Seq.{drop_at, take-add}
use Rattle.changes.specs.Lists.{All}
use Rattle.changes.proofs.Each.{all_drop}
use Rattle.big_endian.specs.Bytes.{bytes_of, Byte}
use Rattle.sheet.specs.Sheet.{Row, alone, extended, joined, rows_of, set_bits, number_bytes, row_bytes, rows_bytes}
use Rattle.sheet.specs.Sheet.{tag_in, mask_in, numbers_in, row_in, row_size, rows_in, are_rows}
use Rattle.sheet.proofs.Bits.{set_bits_lem}
use Rattle.sheet.proofs.Clauses.{rows_none, rows_more, row_bytes_parts, rows_bytes_none, rows_bytes_more}
use Rattle.sheet.proofs.Clauses.{rows_in_none, rows_in_more, test_none, test_more}
use Rattle.sheet.proofs.Each.{all_both}
use Rattle.sheet.proofs.GoodRows.{GoodRow, Priced, Rising, no_row, next_row, joined_by}
use Rattle.sheet.proofs.MaskBits.{some_set}
use Rattle.sheet.proofs.NumberBytes.{number_bytes-length, number_bytes_small, number_bytes_back, numbers_length, numbers_back}
use Rattle.sheet.proofs.NumberBytes.{numbers_Priced, four_small, headed_length, headed_small}
use Rattle.sheet.proofs.NumberBytes.{first_number, second_number, behind_head, head_back}
use Rattle.sheet.proofs.SheetTest.{RowAt, row_facts, facts_row, none_left, rows_facts}

-- lengths
pub row_bytes-length : (r : Row) → length (row_bytes r) ≡ 8 + 4 * length r.prices
row_bytes-length r =
    ap length (row_bytes_parts r)
    ∙ headed_length (r.number * 64) r.mask (number_bytes r.prices)
    ∙ ap (λ (n : ℕ). 8 + n) (number_bytes-length r.prices)

rows_bytes-length : (r : Row) (rs : List Row) → length (rows_bytes (r ∷ rs)) ≡ 8 + 4 * length r.prices + length (rows_bytes rs)
rows_bytes-length r rs =
    ap length (rows_bytes_more r rs)
    ∙ length-append (row_bytes r) (rows_bytes rs)
    ∙ ap (λ (n : ℕ). n + length (rows_bytes rs)) (row_bytes-length r)

pub rows_in-length : (n : ℕ) (b : List ℕ) → length (rows_in n b) ≡ n
unfolding rows_in
rows_in-length zero b = refl
rows_in-length (suc n) b = ap suc (rows_in-length n (drop (row_size (mask_in b)) b))

-- a word more has a price more, and a row more where it begins one
joined_size : (w : ℕ) (rs : List Row)
    → length (rows_bytes (joined w rs)) + 8 * length rs ≡ length (rows_bytes rs) + 8 * length (joined w rs) + 4
joined_size w [] = omega (arith, rows_bytes-length (alone w) [])
joined_size w (r ∷ rs) =
    joined_by w (λ (l : List Row). length (rows_bytes l) + 8 * length (r ∷ rs) ≡ length (rows_bytes (r ∷ rs)) + 8 * length l + 4) r rs
    (λ e. omega (arith, rows_bytes-length (extended w r) rs, rows_bytes-length r rs))
    (λ n. omega (arith, rows_bytes-length (alone w) (r ∷ rs)))

pub rows_size : (m : List ℕ) → length (rows_bytes (rows_of m)) ≡ 8 * length (rows_of m) + 4 * length m
rows_size [] = rw (rows_none, rows_bytes_none)
rows_size (w ∷ m) = rw (rows_more w m) (omega (arith, joined_size w (rows_of m), rows_size m))

-- all are bytes
row_bytes_small : (r : Row) → All Byte (row_bytes r)
row_bytes_small r =
    subst (All Byte) (sym (row_bytes_parts r))
    (headed_small (r.number * 64) r.mask (number_bytes r.prices) (number_bytes_small r.prices))

pub rows_bytes_small : (rs : List Row) → All Byte (rows_bytes rs)
unfolding rows_bytes All
rows_bytes_small [] = tt
rows_bytes_small (r ∷ rs) = all_both Byte (row_bytes r) (rows_bytes rs) (row_bytes_small r) (rows_bytes_small rs)

-- a good row, read where it is written, whatever stands behind it
module _ (r : Row) (g : GoodRow r) (priced : Priced r.prices) (rest : List ℕ) where
  row_headed : row_bytes r ++ rest ≡ bytes_of 4 (r.number * 64) ++ bytes_of 4 r.mask ++ (number_bytes r.prices ++ rest)
  row_headed =
      ap (λ (b : List ℕ). b ++ rest) (row_bytes_parts r)
      ∙ append_assoc (bytes_of 4 (r.number * 64) ++ bytes_of 4 r.mask) (number_bytes r.prices) rest

  row_tag : tag_in (row_bytes r ++ rest) ≡ r.number * 64
  row_tag = ap tag_in row_headed ∙ first_number (r.number * 64) r.mask (number_bytes r.prices ++ rest) (omega (arith, g.small))

  row_mask : mask_in (row_bytes r ++ rest) ≡ r.mask
  row_mask = ap mask_in row_headed ∙ second_number (r.number * 64) r.mask (number_bytes r.prices ++ rest) g.fits

  row_behind_head : drop 8 (row_bytes r ++ rest) ≡ number_bytes r.prices ++ rest
  row_behind_head = ap (drop 8) row_headed ∙ behind_head (r.number * 64) r.mask (number_bytes r.prices ++ rest)

  row_count : set_bits (mask_in (row_bytes r ++ rest)) ≡ length r.prices
  row_count = ap set_bits row_mask ∙ set_bits_lem r.mask g.fits ∙ sym g.count

  row_size_lem : row_size (mask_in (row_bytes r ++ rest)) ≡ length (row_bytes r)
  row_size_lem = ap (λ (n : ℕ). 8 + 4 * n) row_count ∙ sym (row_bytes-length r)

  row_read : row_in (row_bytes r ++ rest) ≡ r
  row_read =
      let number : tag_in (row_bytes r ++ rest) / 64 ≡ r.number = omega (arith, row_tag) in
      let prices : numbers_in (set_bits (mask_in (row_bytes r ++ rest))) (drop 8 (row_bytes r ++ rest)) ≡ r.prices =
      ap₂ numbers_in row_count row_behind_head ∙ numbers_back r.prices rest priced in
      λ i. record { number = number i; mask = row_mask i; prices = prices i }

  row_rest : drop (row_size (mask_in (row_bytes r ++ rest))) (row_bytes r ++ rest) ≡ rest
  row_rest = drop_at (row_bytes r) rest (row_size (mask_in (row_bytes r ++ rest))) (sym row_size_lem)

  row_at : (n : ℕ) → n ≤ r.number → RowAt n (row_bytes r ++ rest)
  row_at n l =
      let long : length (row_bytes r ++ rest) ≡ 8 + 4 * length r.prices + length rest =
      length-append (row_bytes r) rest ∙ ap (λ (k : ℕ). k + length rest) (row_bytes-length r) in
      record {
        long = omega (arith, long);
        tagged = omega (arith, row_tag);
        rises = omega (arith, row_tag, l);
        some = omega (arith, row_mask, g.some);
        room = omega (arith, row_size_lem, row_bytes-length r, long);
      }

-- rows, to bytes and back
pub rows_read : (n : ℕ) (rs : List Row) → Rising n rs → rows_in (length rs) (rows_bytes rs) ≡ rs
rows_read n [] h = rows_in_none (rows_bytes [])
rows_read n (r ∷ rs) (next_row _ _ _ l g p h) =
    ap (rows_in (suc (length rs))) (rows_bytes_more r rs)
    ∙ rows_in_more (length rs) (row_bytes r ++ rows_bytes rs)
    ∙ ap₂ ◌∷◌ (row_read r g p (rows_bytes rs)) (ap (rows_in (length rs)) (row_rest r g p (rows_bytes rs)) ∙ rows_read (r.number + 1) rs h)

pub rows_pass : (n : ℕ) (rs : List Row) → Rising n rs → are_rows (length rs) n (rows_bytes rs) ≡ true
rows_pass n [] h = test_none n (rows_bytes []) ∙ eq-eqb (length (rows_bytes [])) 0 (ap length rows_bytes_none)
rows_pass n (r ∷ rs) (next_row _ _ _ l g p h) =
    let b = row_bytes r ++ rows_bytes rs in
    let next : tag_in b / 64 + 1 ≡ r.number + 1 = omega (arith, row_tag r g p (rows_bytes rs)) in
    ap (are_rows (suc (length rs)) n) (rows_bytes_more r rs)
    ∙ test_more (length rs) n b
    ∙ ap (λ (t : Bool). t && are_rows (length rs) (tag_in b / 64 + 1) (drop (row_size (mask_in b)) b))
    (facts_row n b (row_at r g p (rows_bytes rs) n l))
    ∙ ap₂ (are_rows (length rs)) next (row_rest r g p (rows_bytes rs))
    ∙ rows_pass (r.number + 1) rs h

-- a mask that is read has 32 bits
mask_fits : (b : List ℕ) → All Byte b → mask_in b < 2 ^ 32
mask_fits b small = four_small (drop 4 b) (all_drop Byte 4 b small)

-- a row that stands at the start of bytes
module _ (least : ℕ) (b : List ℕ) (a : RowAt least b) (small : All Byte b) where
  row_good : GoodRow (row_in b)
  row_good =
      record {
        small = omega (arith, four_small b small);
        some = a.some;
        fits = mask_fits b small;
        count = numbers_length (set_bits (mask_in b)) (drop 8 b) ∙ set_bits_lem (mask_in b) (mask_fits b small);
      }

  row_Priced : Priced (row_in b).prices
  row_Priced = numbers_Priced (set_bits (mask_in b)) (drop 8 b) (all_drop Byte 8 b small)

  seats_some : 0 < set_bits (mask_in b)
  seats_some = omega (arith, set_bits_lem (mask_in b) (mask_fits b small), some_set (mask_in b) a.some)

  row_bytes_back : row_bytes (row_in b) ≡ take (row_size (mask_in b)) b
  row_bytes_back =
      let tag : tag_in b / 64 * 64 ≡ tag_in b = omega (arith, a.tagged) in
      row_bytes_parts (row_in b)
      ∙ ap (λ (n : ℕ). bytes_of 4 n ++ bytes_of 4 (mask_in b) ++ number_bytes (row_in b).prices) tag
      ∙ ap₂ ◌++◌ (head_back b a.long small)
      (number_bytes_back (set_bits (mask_in b)) (drop 8 b) (omega (arith, length-drop 8 b, a.room)) (all_drop Byte 8 b small))
      ∙ sym (take-add 8 (4 * set_bits (mask_in b)) b)

-- no bytes
nothing : (b : List ℕ) → length b ≡ 0 → [] ≡ b
nothing [] e = refl
nothing (x ∷ b) e = absurd (omega arith)

-- bytes, to rows and back
pub rows_bytes_back : (n least : ℕ) (b : List ℕ) → are_rows n least b ≡ true → All Byte b → rows_bytes (rows_in n b) ≡ b
rows_bytes_back zero least b e h = ap rows_bytes (rows_in_none b) ∙ rows_bytes_none ∙ nothing b (none_left least b e)
rows_bytes_back (suc n) least b e h =
    let facts = rows_facts n least b e in
    let size = row_size (mask_in b) in
    ap rows_bytes (rows_in_more n b)
    ∙ rows_bytes_more (row_in b) (rows_in n (drop size b))
    ∙ ap₂ ◌++◌ (row_bytes_back least b (row_facts least b facts.0) h)
    (rows_bytes_back n (tag_in b / 64 + 1) (drop size b) facts.1 (all_drop Byte size b h))
    ∙ take-append-drop size b

pub rows_good : (n least : ℕ) (b : List ℕ) → are_rows n least b ≡ true → All Byte b → Rising least (rows_in n b)
rows_good zero least b e h = subst (Rising least) (sym (rows_in_none b)) (no_row least)
rows_good (suc n) least b e h =
    let facts = rows_facts n least b e in
    let size = row_size (mask_in b) in
    let a = row_facts least b facts.0 in
    subst (Rising least) (sym (rows_in_more n b))
    (next_row least (row_in b) (rows_in n (drop size b)) a.rises (row_good least b a h) (row_Priced least b a h)
    (rows_good n (tag_in b / 64 + 1) (drop size b) facts.1 (all_drop Byte size b h)))

-- n rows take at least twelve bytes each
pub rows_long : (n least : ℕ) (b : List ℕ) → are_rows n least b ≡ true → All Byte b → 12 * n ≤ length b
rows_long zero least b e h = omega arith
rows_long (suc n) least b e h =
    let facts = rows_facts n least b e in
    let size = row_size (mask_in b) in
    let a = row_facts least b facts.0 in
    let rest = rows_long n (tag_in b / 64 + 1) (drop size b) facts.1 (all_drop Byte size b h) in
    omega (arith, a.room, seats_some least b a h, rest, length-drop size b)
