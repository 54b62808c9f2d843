-- Rows that rise, to a map's words and back: the words of the rows' seats are a map's, and their rows are the same rows.
-- Assumes nothing.
use mathlib.Core.Path.{◌≡◌, refl, sym, ap, ap₂, subst, ◌∙◌}
use mathlib.Core.Bool.{cond}
use mathlib.Core.List.{List, [], ◌∷◌, ◌++◌}
use Prim.Native.Nat.{ℕ, suc, ◌+◌, ◌-◌, ◌*◌, ◌/◌, ◌%◌, ◌^◌, ◌≤◌, ◌<◌}
use native.Mathlib.Decide.{ℕ_discrete}
use native.Mathlib.Nat.{mod-one, mod-eq_of_lt}
use native.Mathlib.Omega.{arith}
use borrow.Author.Tests.{eq-eqb, ne_eqb}
use lib.Count.{ones}
use lib.Dec.{eqb}
use lib.ListN.{drop, get_or, drop_of_length-le}
use lib.Pow.{pow_pos}
use lib.Seq.{drop-cons}
use Rattle.entry.specs.Word.{offer_of, price_of, Put}
use Rattle.sheet.specs.Sheet.{Row, row_of, seat_bit, joined, rows_of, place_in, seat_word, seat_words, words_of_rows}
use Rattle.sheet.proofs.Bits.{none_set}
use Rattle.sheet.proofs.Clauses.{rows_none, rows_more, words_none, words_more}
use Rattle.sheet.proofs.GoodRows.{GoodRow, Priced, Rising, next_row, Above, above, joined-alone, joined_same}
use Rattle.sheet.proofs.GoodRows.{put_offer, Put-kind, put_price, put_row, put_seat}
use Rattle.sheet.proofs.MapWords.{Words, Words-lower, Words-first}
use Rattle.sheet.proofs.MaskBits.{low_set, low_unset, ones_more, ones_parts, place_left}
use Rattle.sheet.proofs.Seats.{seats_by}

-- The words of a good row's last k seats, before words of higher rows, have rising offers.
module _ (r : Row) (g : GoodRow r) (priced : Priced r.prices) (tail : List ℕ) (t : Words (r.number * 32 + 32) tail) where
  row_words : Words (r.number * 32) (seat_words r 32 ++ tail)
  row_words =
      let none : r.number * 32 + (32 - 32) ≡ r.number * 32 = omega arith in
      subst (λ (n : ℕ). Words n (seat_words r 32 ++ tail)) none
      (seats_by r (λ (k : ℕ) (l : List ℕ). Words (r.number * 32 + (32 - k)) (l ++ tail)) t with-seat without-seat 32 (omega arith))
    where
      with-seat : (k : ℕ) (l : List ℕ) → suc k ≤ 32 → r.mask / 2 ^ k % 2 ≡ 1 → Words (r.number * 32 + (32 - k)) (l ++ tail)
          → Words (r.number * 32 + (32 - suc k)) (seat_word r (31 - k) ∷ l ++ tail)
      with-seat k l h e i =
          let price = get_or r.prices (place_in r.mask (31 - k)) 0 in
          let small : price < 2 ^ 32 = priced (place_in r.mask (31 - k)) in
          let offer : offer_of (seat_word r (31 - k)) ≡ r.number * 32 + (31 - k) =
          put_offer r.number (31 - k) price g.small (omega arith) small in
          let puts : Put (seat_word r (31 - k)) = Put-kind r.number (31 - k) price g.small (omega arith) small in
          let next : r.number * 32 + (32 - k) ≡ offer_of (seat_word r (31 - k)) + 1 = omega (arith, offer) in
          Words-first (r.number * 32 + (32 - suc k)) (seat_word r (31 - k)) (l ++ tail) (omega (arith, offer)) puts
          (subst (λ (n : ℕ). Words n (l ++ tail)) next i)

      without-seat : (k : ℕ) (l : List ℕ) → suc k ≤ 32 → r.mask / 2 ^ k % 2 ≡ 0 → Words (r.number * 32 + (32 - k)) (l ++ tail)
          → Words (r.number * 32 + (32 - suc k)) (l ++ tail)
      without-seat k l h e i =
          Words-lower (r.number * 32 + (32 - suc k)) (r.number * 32 + (32 - k)) (l ++ tail) (omega arith) i

-- the words of rows that rise are a map's
pub rows_words : (n : ℕ) (rs : List Row) → Rising n rs → Words (n * 32) (words_of_rows rs)
unfolding Words words_of_rows
rows_words n [] h = tt
rows_words n (r ∷ rs) (next_row _ _ _ l g p h) =
    let next : (r.number + 1) * 32 ≡ r.number * 32 + 32 = omega arith in
    Words-lower (n * 32) (r.number * 32) (seat_words r 32 ++ words_of_rows rs) (omega (arith, l))
    (row_words r g p (words_of_rows rs) (subst (λ (k : ℕ). Words k (words_of_rows rs)) next (rows_words (r.number + 1) rs h)))

-- The words of a row's last k seats, before words whose rows lie above it, are the row with the bits and prices of those seats.
module _ (r : Row) (g : GoodRow r) (priced : Priced r.prices) (rs : List Row) (a : Above r.number rs) (tail : List ℕ)
    (t : rows_of tail ≡ rs) where
  abbrev m : ℕ
  m = r.mask

  abbrev row : ℕ → List ℕ → Row
  row low prices = record { number = r.number; mask = low; prices = prices }

  abbrev with : ℕ → ℕ → List Row
  with low passed = cond (eqb low 0) rs (row low (drop passed r.prices) ∷ rs)

  with_none : (low passed : ℕ) → low ≡ 0 → with low passed ≡ rs
  with_none low passed e = rw (eq-eqb low 0 e) refl

  with_some : (low passed : ℕ) → 0 < low → with low passed ≡ row low (drop passed r.prices) ∷ rs
  with_some low passed h = rw (ne_eqb low 0 (λ e. omega (arith, h))) refl

  -- a set bit
  module _ (k : ℕ) (h : suc k ≤ 32) (e : m / 2 ^ k % 2 ≡ 1) where
    abbrev w : ℕ
    w = seat_word r (31 - k)

    seat_in : 31 - k < 32
    seat_in = omega arith

    low_is : m % 2 ^ suc k ≡ 2 ^ k + m % 2 ^ k
    low_is = low_set m k e

    passed_is : ones (m / 2 ^ k) ≡ suc (ones (m / 2 ^ suc k))
    passed_is = omega (arith, ones_more m k, e)

    place_is : place_in m (31 - k) ≡ ones (m / 2 ^ suc k)
    place_is = place_left m k g.fits h

    next_price : drop (ones (m / 2 ^ suc k)) r.prices ≡ price_of w ∷ drop (ones (m / 2 ^ k)) r.prices
    next_price =
        let here = get_or r.prices (place_in m (31 - k)) 0 in
        let price : get_or r.prices (ones (m / 2 ^ suc k)) 0 ≡ price_of w =
        ap (λ (i : ℕ). get_or r.prices i 0) (sym place_is)
        ∙ sym (put_price r.number (31 - k) here g.small seat_in (priced (place_in m (31 - k)))) in
        drop-cons r.prices (ones (m / 2 ^ suc k)) 0 (omega (arith, g.count, ones_parts m k, passed_is))
        ∙ ap₂ (λ (x : ℕ) (n : ℕ). x ∷ drop n r.prices) price (sym passed_is)

    row_is : row_of (offer_of w) ≡ r.number
    row_is = put_row r.number (31 - k) (get_or r.prices (place_in m (31 - k)) 0) g.small seat_in (priced (place_in m (31 - k)))

    bit_is : seat_bit (offer_of w) ≡ 2 ^ k
    bit_is =
        let here = get_or r.prices (place_in m (31 - k)) 0 in
        let seat = put_seat r.number (31 - k) here g.small seat_in (priced (place_in m (31 - k))) in
        let left : 31 - (31 - k) ≡ k = omega arith in
        ap (λ (n : ℕ). 2 ^ (31 - n)) seat ∙ ap (λ (n : ℕ). 2 ^ n) left

    set_bit : joined w (with (m % 2 ^ k) (ones (m / 2 ^ k))) ≡ with (m % 2 ^ suc k) (ones (m / 2 ^ suc k))
    set_bit = go (ℕ_discrete (m % 2 ^ k) 0)
      where
        whole : row (2 ^ k + m % 2 ^ k) (price_of w ∷ drop (ones (m / 2 ^ k)) r.prices) ∷ rs ≡ with (m % 2 ^ suc k) (ones (m / 2 ^ suc k))
        whole =
            ap₂ (λ (low : ℕ) (ps : List ℕ). row low ps ∷ rs) (sym low_is) (sym next_price)
            ∙ sym (with_some (m % 2 ^ suc k) (ones (m / 2 ^ suc k)) (omega (arith, low_is, pow_pos k)))

        go : Dec (m % 2 ^ k ≡ 0) → joined w (with (m % 2 ^ k) (ones (m / 2 ^ k))) ≡ with (m % 2 ^ suc k) (ones (m / 2 ^ suc k))
        go (yes z) =
            let none : ones (m % 2 ^ k) ≡ 0 = ap ones z ∙ none_set in
            let last : drop (ones (m / 2 ^ k)) r.prices ≡ [] =
            drop_of_length-le r.prices {i = ones (m / 2 ^ k)} (omega (arith, g.count, ones_parts m k, none)) in
            let alone-bit : seat_bit (offer_of w) ≡ 2 ^ k + m % 2 ^ k = omega (arith, bit_is, z) in
            ap (joined w) (with_none (m % 2 ^ k) (ones (m / 2 ^ k)) z)
            ∙ joined-alone w rs (subst (λ (n : ℕ). Above n rs) (sym row_is) a)
            ∙ (λ i. record { number = row_is i; mask = alone-bit i; prices = price_of w ∷ sym last i } ∷ rs)
            ∙ whole
        go (no n) =
            ap (joined w) (with_some (m % 2 ^ k) (ones (m / 2 ^ k)) (omega (arith, n)))
            ∙ joined_same w (row (m % 2 ^ k) (drop (ones (m / 2 ^ k)) r.prices)) rs row_is
            ∙ ap (λ (b : ℕ). row (b + m % 2 ^ k) (price_of w ∷ drop (ones (m / 2 ^ k)) r.prices) ∷ rs) bit_is
            ∙ whole

  unset_bit : (k : ℕ) → m / 2 ^ k % 2 ≡ 0 → with (m % 2 ^ k) (ones (m / 2 ^ k)) ≡ with (m % 2 ^ suc k) (ones (m / 2 ^ suc k))
  unset_bit k e =
      let passed : ones (m / 2 ^ k) ≡ ones (m / 2 ^ suc k) = omega (arith, ones_more m k, e) in
      ap₂ with (sym (low_unset m k e)) passed

  -- a row's words are read as the row
  row_back : rows_of (seat_words r 32 ++ tail) ≡ r ∷ rs
  row_back =
      let whole : m % 2 ^ 32 ≡ m = mod-eq_of_lt g.fits in
      let top : m / 2 ^ 32 ≡ 0 = omega (arith, g.fits) in
      let none : ones (m / 2 ^ 32) ≡ 0 = ap ones top ∙ none_set in
      seats_by r (λ (k : ℕ) (l : List ℕ). rows_of (l ++ tail) ≡ with (m % 2 ^ k) (ones (m / 2 ^ k)))
      (t ∙ sym (with_none (m % 2 ^ 0) (ones (m / 2 ^ 0)) (mod-one m)))
      (λ k l h e i. rows_more (seat_word r (31 - k)) (l ++ tail) ∙ ap (joined (seat_word r (31 - k))) i ∙ set_bit k h e)
      (λ k l h e i. i ∙ unset_bit k e) 32 (omega arith)
      ∙ ap₂ with whole none
      ∙ with_some m 0 g.some

-- rows that rise, to words and back
pub rows_back : (n : ℕ) (rs : List Row) → Rising n rs → rows_of (words_of_rows rs) ≡ rs
rows_back n [] h = ap rows_of words_none ∙ rows_none
rows_back n (r ∷ rs) (next_row _ _ _ l g p h) =
    ap rows_of (words_more r rs)
    ∙ row_back r g p rs (above r.number rs h) (words_of_rows rs) (rows_back (r.number + 1) rs h)
