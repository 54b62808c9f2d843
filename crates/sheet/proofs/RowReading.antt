-- A row that is read: what stands in its bytes, and the loop over the set bits of its mask.
-- Assumes nothing.
use mathlib.Core.Path.{◌≡◌, sym, ap, ap₂, subst, ◌∙◌}
use mathlib.Core.List.{List, [], ◌∷◌, ◌++◌}
use Prim.Native.Nat.{ℕ, suc, ◌+◌, ◌-◌, ◌*◌, ◌/◌, ◌%◌, ◌^◌, ◌≤◌, ◌<◌}
use native.Mathlib.Nat.{mod-lt, mod-eq_of_lt}
use native.Mathlib.Decide.{ℕ_discrete}
use native.Mathlib.Omega.{arith}
use lib.Count.{ones, count_leading_zeros}
use lib.ListN.{length, take, drop, get_or, set, length-set}
use lib.Pow.{pow_pos, pow_mono}
use lib.Seq.{drop-drop}
use Rattle.std.proofs.lemmas.List.{set-get_or}
use Rattle.words.proofs.Writing.{Writing, start, stored, done}
use Rattle.entry.specs.Word.{put_of}
use Rattle.big_endian.specs.Bytes.{value_of}
use Rattle.sheet.specs.Sheet.{Row, set_bits, place_in, seat_word, seat_words, numbers_in, tag_in, mask_in, row_in, row_size}
use Rattle.sheet.proofs.Bits.{none_set, set_bits_lem}
use Rattle.sheet.proofs.MaskBits.{top_seat, top_low, top_high}
use Rattle.sheet.proofs.NumberBytes.{number_at}
use Rattle.sheet.proofs.Seats.{row_length, seats_end, next_words, next_low, next_passed, next_place, next_inside}

-- the row at the start of the bytes, by its number and its mask
abbrev pub row_here : List ℕ → ℕ → ℕ → Row
row_here b number mask = record { number = number; mask = mask; prices = numbers_in (set_bits mask) (drop 8 b) }

-- A loop over the set bits of the mask: the words of the seats before are in the table, as many as are counted, and the bits that are left
-- are those of the seats behind.
pub record RowReading (b : List ℕ) (number mask : ℕ) (out out₀ : List ℕ) (rest i : ℕ) : Type 0 where
  pub small : number < 2 ^ 26
  pub fits : mask < 2 ^ 32
  pub whole : 8 + 4 * set_bits mask ≤ length b
  pub room : set_bits mask ≤ length out
  pub left : ℕ
  pub inside : left ≤ 32
  pub low : rest ≡ mask % 2 ^ left
  pub counted : i ≡ ones (mask / 2 ^ left)
  pub writing : Writing out out₀ i (seat_words (row_here b number mask) left) (seat_words (row_here b number mask) 32)

module _ {b : List ℕ} {number mask : ℕ} {out out₀ : List ℕ} {rest i : ℕ} (t : RowReading b number mask out out₀ rest i) where
  abbrev row : Row
  row = row_here b number mask

  rest_fits : rest < 2 ^ 32
  rest_fits = omega (arith, t.low, mod-lt mask (pow_pos t.left), pow_mono {i = t.left} {j = 32} t.inside)

  -- no bit is left, so all words are counted
  all_counted : rest ≡ 0 → (seat_words row t.left ≡ []) × (i ≡ set_bits mask)
  all_counted e =
      let end = seats_end row t.left (sym t.low ∙ e) in
      (end.0, t.counted ∙ end.1 ∙ sym (set_bits_lem mask t.fits))

  module _ (some : rest ≡ 0 → ⊥) where
    rest_some : 0 < rest
    rest_some = omega (arith, some)

    pub seat_in : count_leading_zeros 32 rest < 32
    seat_in = top_seat rest rest_some rest_fits

    pub bit_in : 2 ^ (31 - count_leading_zeros 32 rest) ≤ rest
    bit_in = top_low rest rest_some rest_fits

    bit_low : 2 ^ (31 - count_leading_zeros 32 rest) ≤ mask % 2 ^ t.left
    bit_low = rw (← t.low) bit_in

    bit_high : mask % 2 ^ t.left < 2 ^ suc (31 - count_leading_zeros 32 rest)
    bit_high = rw (← t.low) (top_high rest rest_some rest_fits)

    -- the seat whose bit is the most significant that is left
    abbrev seat : ℕ
    seat = count_leading_zeros 32 rest

    same_seat : 31 - (31 - seat) ≡ seat
    same_seat = omega (arith, seat_in)

    place_is : i ≡ place_in mask seat
    place_is =
        t.counted
        ∙ sym (next_place row t.fits t.left (31 - seat) t.inside bit_low bit_high)
        ∙ ap (place_in mask) same_seat

    pub place_in_lem : i < set_bits mask
    place_in_lem = omega (arith, t.counted, next_inside row t.fits t.left (31 - seat) t.inside bit_low bit_high)

    seat_next : seat_words row t.left ≡ seat_word row seat ∷ seat_words row (31 - seat)
    seat_next =
        next_words row t.fits t.left (31 - seat) t.inside bit_low bit_high
        ∙ ap (λ (n : ℕ). seat_word row n ∷ seat_words row (31 - seat)) same_seat

    -- the word that is made of what stands at the seat's place
    module _ (price w : ℕ) (v : price ≡ value_of (take 4 (drop (8 + 4 * i) b)))
        (e : w ≡ put_of ((number * 32 + seat) % 2 ^ 31) price) where
      word_is : w ≡ seat_word row seat
      word_is =
          let offer : (number * 32 + seat) % 2 ^ 31 ≡ number * 32 + seat = omega (arith, t.small, seat_in) in
          let at_place : price ≡ get_or (numbers_in (set_bits mask) (drop 8 b)) (place_in mask seat) 0 =
          v
          ∙ ap (λ (l : List ℕ). value_of (take 4 l)) (sym (drop-drop (4 * i) 8 b))
          ∙ sym (number_at (set_bits mask) (drop 8 b) i place_in_lem)
          ∙ ap (λ (n : ℕ). get_or (numbers_in (set_bits mask) (drop 8 b)) n 0) place_is in
          e ∙ ap₂ put_of offer at_place

      pub seat_stored : (bit : ℕ) → bit ≡ 2 ^ (31 - seat) → RowReading b number mask (set out i w) out₀ (rest - bit) (i + 1)
      seat_stored bit u =
          let passed = next_passed row t.fits t.left (31 - seat) t.inside bit_low bit_high in
          record {
            small = t.small;
            fits = t.fits;
            whole = t.whole;
            room = rw length-set t.room;
            left = 31 - seat;
            inside = omega arith;
            low = omega (arith, u, t.low, next_low row t.fits t.left (31 - seat) t.inside bit_low bit_high);
            counted = omega (arith, t.counted, passed);
            writing = stored t.writing (seat_next ∙ ap (λ (x : ℕ). x ∷ seat_words row (31 - seat)) (sym word_is))
                (omega (arith, place_in_lem, t.room));
          }

  -- no bit is left
  pub row_read : rest ≡ 0 → (i ≡ set_bits mask) × (out ≡ seat_words row 32 ++ drop i out₀)
  row_read e =
      let all = all_counted e in
      let end : length (seat_words row 32) ≡ i = row_length row t.fits ∙ sym all.1 in
      (all.1, done t.writing all.0 ∙ ap (λ (n : ℕ). seat_words row 32 ++ drop n out₀) end)

  -- no word of the table is left, so no bit is
  pub no_bit : length out ≤ i → rest ≡ 0
  no_bit h = go (ℕ_discrete rest 0)
    where
      go : Dec (rest ≡ 0) → rest ≡ 0
      go (yes e) = e
      go (no n) = absurd (omega (arith, place_in_lem n, t.room))

-- What the code reads of a row: its tag and its mask.
module _ (b : List ℕ) (tag mask : ℕ) (e : tag ≡ tag_in b) (m : mask ≡ mask_in b) (fits : mask < 2 ^ 32) where
  same_row : row_here b (tag / 64) mask ≡ row_in b
  same_row = λ i. record { number = e i / 64; mask = m i; prices = numbers_in (set_bits (m i)) (drop 8 b) }

  pub begin_row : tag < 2 ^ 32 → (out : List ℕ) → row_size (mask_in b) ≤ length b → set_bits mask ≤ length out
      → RowReading b (tag / 64) mask out out mask 0
  begin_row h out whole room =
      let above : mask / 2 ^ 32 ≡ 0 = omega arith in
      let none : ones (mask / 2 ^ 32) ≡ 0 = ap ones above ∙ none_set in
      record {
        small = omega arith;
        fits = fits;
        whole = omega (arith, ap set_bits m);
        room = room;
        left = 32;
        inside = omega arith;
        low = sym (mod-eq_of_lt fits);
        counted = sym none;
        writing = start out (seat_words (row_here b (tag / 64) mask) 32);
      }

  pub words_length : length (seat_words (row_in b) 32) ≡ set_bits mask
  words_length = ap (λ (r : Row). length (seat_words r 32)) (sym same_row) ∙ row_length (row_here b (tag / 64) mask) fits

  pub end_row : {out out₀ : List ℕ} {rest i : ℕ} → RowReading b (tag / 64) mask out out₀ rest i → rest ≡ 0
      → (i ≡ set_bits (mask_in b)) × (out ≡ seat_words (row_in b) 32 ++ drop i out₀)
  end_row {out} {out₀} {rest} {i} t none =
      let read = row_read t none in
      (read.0 ∙ ap set_bits m, read.1 ∙ ap (λ (r : Row). seat_words r 32 ++ drop i out₀) same_row)

  -- the word that stands where the next would be is given back as it was
  pub end_early : {out out₀ : List ℕ} {rest i : ℕ} → RowReading b (tag / 64) mask out out₀ rest i → rest ≡ 0
      → (i ≡ set_bits (mask_in b)) × (set out i (get_or out i 0) ≡ seat_words (row_in b) 32 ++ drop i out₀)
  end_early {out} {out₀} {rest} {i} t none =
      let read = end_row t none in
      (read.0, set-get_or out i 0 ∙ read.1)

  -- or the words fill the table
  pub end_full : {out out₀ : List ℕ} {rest i : ℕ} → RowReading b (tag / 64) mask out out₀ rest i → length out ≡ i
      → (length out ≡ set_bits (mask_in b)) × (out ≡ seat_words (row_in b) 32 ++ drop (length out) out₀)
  end_full {out} {out₀} {rest} {i} t full =
      subst (λ (n : ℕ). (n ≡ set_bits (mask_in b)) × (out ≡ seat_words (row_in b) 32 ++ drop n out₀)) (sym full)
      (end_row t (no_bit t (omega arith)))
