-- The words of a map, as rows: the rows rise, and their words are the map's again.
-- Assumes nothing.
use mathlib.Core.Path.{◌≡◌, refl, sym, ap, ap₂, subst, ◌∙◌}
use mathlib.Core.Bool.{cond}
use mathlib.Core.List.{List, [], ◌∷◌, ◌++◌}
use Prim.Native.Nat.{ℕ, zero, suc, ◌+◌, ◌-◌, ◌*◌, ◌/◌, ◌%◌, ◌^◌, ◌≤◌, ◌<◌}
use native.Mathlib.Nat.{add-zero}
use native.Mathlib.Omega.{arith}
use lib.Count.{ones}
use lib.Dec.{eqb}
use lib.ListN.{get_or}
use lib.Pow.{pow_pos, pow_mono}
use Rattle.entry.specs.Word.{offer_of, price_of, put_of, Put}
use Rattle.sheet.specs.Sheet.{Row, row_of, alone, extended, joined, rows_of, place_in, seat_word, seat_words, words_of_rows}
use Rattle.sheet.proofs.Bits.{none_set}
use Rattle.sheet.proofs.Clauses.{seats_none, seats_set, words_none, words_more}
use Rattle.sheet.proofs.GoodRows.{GoodRow, Priced, Rising, no_row, next_row, lower_rising, joined_by}
use Rattle.sheet.proofs.MapWords.{Words}
use Rattle.sheet.proofs.MaskBits.{front_small, front_set, place_left, none_above, same_bit, place_more}
use Rattle.sheet.proofs.MaskBits.{ones_front, one_bit, seats_fit, bit_small, bits_small}
use Rattle.sheet.proofs.Seats.{seats_from}

-- a row with a bit more in front
module _ (n mask p : ℕ) (prices : List ℕ) (j : ℕ) (h : mask < 2 ^ j) where
  abbrev old : Row
  old = record { number = n; mask = mask; prices = prices }

  abbrev new : Row
  new = record { number = n; mask = 2 ^ j + mask; prices = p ∷ prices }

  -- the bit is one of 32
  module _ (in_row : j ≤ 31) where
    new_fits : 2 ^ j + mask < 2 ^ 32
    new_fits = omega (arith, front_small j mask h, pow_mono {i = suc j} {j = 32} (omega arith))

    old_fits : mask < 2 ^ 32
    old_fits = omega (arith, new_fits)

    same_seats : (k : ℕ) → k ≤ j → seat_words new k ≡ seat_words old k
    unfolding seat_words
    same_seats zero l = refl
    same_seats (suc k) l =
        let place : place_in (2 ^ j + mask) (31 - k) ≡ suc (place_in mask (31 - k)) =
        place_left (2 ^ j + mask) k new_fits (omega arith) ∙ place_more mask j h (suc k) l
        ∙ ap suc (sym (place_left mask k old_fits (omega arith))) in
        let word : seat_word new (31 - k) ≡ seat_word old (31 - k) =
        ap (λ (i : ℕ). put_of (n * 32 + (31 - k)) (get_or (p ∷ prices) i 0)) place in
        let rest = same_seats k (omega arith) in
        λ i. cond (eqb (same_bit mask j h k (omega arith) i) 1) (word i ∷ rest i) (rest i)

    first_seat : seat_words new 32 ≡ put_of (n * 32 + (31 - j)) p ∷ seat_words old 32
    first_seat =
        let small : 2 ^ j + mask < 2 ^ suc j = front_small j mask h in
        let top : (2 ^ j + mask) / 2 ^ suc j ≡ 0 = none_above (2 ^ j + mask) (suc j) (suc j) small (omega arith) in
        let place : place_in (2 ^ j + mask) (31 - j) ≡ 0 = place_left (2 ^ j + mask) j new_fits (omega arith) ∙ ap ones top ∙ none_set in
        seats_from new (suc j) small 32 (omega arith)
        ∙ seats_set new j (front_set mask j h)
        ∙ ap₂ ◌∷◌ (ap (λ (i : ℕ). put_of (n * 32 + (31 - j)) (get_or (p ∷ prices) i 0)) place)
        (same_seats j (omega arith) ∙ sym (seats_from old j h 32 (omega arith)))

-- the rows of words whose offers are at least n: the first row lies there or above, and has no seat before it
abbrev pub Starts : ℕ → List Row → Type 0
Starts n [] = Unit
Starts n (r ∷ rs) = (n / 32 ≤ r.number) × (r.number ≡ n / 32 → r.mask < 2 ^ (32 - n % 32))

Put-again : (w : ℕ) → Put w → put_of (row_of (offer_of w) * 32 + (31 - (31 - offer_of w % 32))) (price_of w) ≡ w
Put-again w h =
    let offer : row_of (offer_of w) * 32 + (31 - (31 - offer_of w % 32)) ≡ offer_of w = omega arith in
    ap (λ (o : ℕ). put_of o (price_of w)) offer ∙ omega (arith, h)

no_seats : (r : Row) → r.mask < 1 → seat_words r 32 ≡ []
no_seats r h = seats_from r 0 h 32 (omega arith) ∙ seats_none r

alone_words : (w : ℕ) → Put w → seat_words (alone w) 32 ≡ w ∷ []
alone_words w h =
    ap (λ (x : ℕ). seat_words (record { number = row_of (offer_of w); mask = x; prices = price_of w ∷ [] }) 32)
    (sym (add-zero (2 ^ (31 - offer_of w % 32))))
    ∙ first_seat (row_of (offer_of w)) 0 (price_of w) [] (31 - offer_of w % 32) (pow_pos (31 - offer_of w % 32)) (omega arith)
    ∙ ap₂ ◌∷◌ (Put-again w h) (no_seats (record { number = row_of (offer_of w); mask = 0; prices = [] }) (omega arith))

extended_words : (w : ℕ) (r : Row) → Put w → row_of (offer_of w) ≡ r.number → r.mask < 2 ^ (31 - offer_of w % 32)
    → seat_words (extended w r) 32 ≡ w ∷ seat_words r 32
extended_words w r h e l =
    first_seat r.number r.mask (price_of w) r.prices (31 - offer_of w % 32) l (omega arith)
    ∙ ap (λ (x : ℕ). x ∷ seat_words r 32)
    (ap (λ (n : ℕ). put_of (n * 32 + (31 - (31 - offer_of w % 32))) (price_of w)) (sym e) ∙ Put-again w h)

Priced-more : (p : ℕ) (ps : List ℕ) → p < 2 ^ 32 → Priced ps → Priced (p ∷ ps)
Priced-more p ps h f zero = h
Priced-more p ps h f (suc i) = f i

Priced-none : Priced []
Priced-none i = omega arith

-- one word more in front
module _ (w : ℕ) where
  -- a row that the word joins has no seat up to the word's
  joins : (r : Row) (rs : List Row) → Starts (offer_of w + 1) (r ∷ rs) → row_of (offer_of w) ≡ r.number
      → r.mask < 2 ^ (31 - offer_of w % 32)
  joins r rs s e =
      let row : r.number ≡ (offer_of w + 1) / 32 = omega (arith, e, s.0) in
      let place : 32 - (offer_of w + 1) % 32 ≡ 31 - offer_of w % 32 = omega (arith, e, row) in
      subst (λ (x : ℕ). r.mask < 2 ^ x) place (s.1 row)

  joined-Starts : (rs : List Row) → Starts (offer_of w + 1) rs → Starts (offer_of w) (joined w rs)
  joined-Starts [] s = (omega arith, λ e. bit_small (offer_of w))
  joined-Starts (r ∷ rs) s =
      joined_by w (Starts (offer_of w)) r rs (λ e. (omega (arith, e), λ i. bits_small (offer_of w) r.mask (joins r rs s e)))
      (λ n. (omega arith, λ e. bit_small (offer_of w)))

  module _ (h : Put w) where
    joined_words : (rs : List Row) → Starts (offer_of w + 1) rs → words_of_rows (joined w rs) ≡ w ∷ words_of_rows rs
    joined_words [] s =
        words_more (alone w) [] ∙ ap₂ ◌++◌ (alone_words w h) words_none ∙ ap (λ (l : List ℕ). w ∷ l) (sym words_none)
    joined_words (r ∷ rs) s =
        joined_by w (λ (l : List Row). words_of_rows l ≡ w ∷ words_of_rows (r ∷ rs)) r rs
        (λ e. words_more (extended w r) rs
        ∙ ap (λ (l : List ℕ). l ++ words_of_rows rs) (extended_words w r h e (joins r rs s e))
        ∙ ap (λ (l : List ℕ). w ∷ l) (sym (words_more r rs)))
        (λ n. words_more (alone w) (r ∷ rs) ∙ ap (λ (l : List ℕ). l ++ words_of_rows (r ∷ rs)) (alone_words w h))

  alone_good : GoodRow (alone w)
  alone_good =
      record {
        small = omega arith;
        some = pow_pos (31 - offer_of w % 32);
        fits = omega (arith, bit_small (offer_of w), seats_fit (offer_of w));
        count = sym (one_bit (31 - offer_of w % 32));
      }

  extended_good : (r : Row) → GoodRow r → r.mask < 2 ^ (31 - offer_of w % 32) → GoodRow (extended w r)
  extended_good r g l =
      record {
        small = g.small;
        some = omega (arith, pow_pos (31 - offer_of w % 32));
        fits = omega (arith, bits_small (offer_of w) r.mask l, seats_fit (offer_of w));
        count = sym (ones_front (31 - offer_of w % 32) r.mask l ∙ ap suc (sym g.count));
      }

  alone-Priced : Priced (alone w).prices
  alone-Priced = Priced-more (price_of w) [] (omega arith) Priced-none

  joined_rises : (rs : List Row) → Starts (offer_of w + 1) rs → Rising ((offer_of w + 1) / 32) rs → Rising (offer_of w / 32) (joined w rs)
  joined_rises [] s r = next_row (offer_of w / 32) (alone w) [] (omega arith) alone_good alone-Priced (no_row (offer_of w / 32 + 1))
  joined_rises (r ∷ rs) s (next_row _ _ _ l g p rest) =
      joined_by w (Rising (offer_of w / 32)) r rs
      (λ e. next_row (offer_of w / 32) (extended w r) rs (omega (arith, e)) (extended_good r g (joins r rs s e))
      (Priced-more (price_of w) r.prices (omega arith) p) rest)
      (λ n. next_row (offer_of w / 32) (alone w) (r ∷ rs) (omega arith) alone_good alone-Priced
      (next_row (offer_of w / 32 + 1) r rs (omega (arith, n, l)) g p rest))

lower : (n o : ℕ) (rs : List Row) → n ≤ o → Starts o rs → Starts n rs
lower n o [] l s = tt
lower n o (r ∷ rs) l s = (
  omega (arith, s.0),
  λ e.
      let row : r.number ≡ o / 32 = omega (arith, e, s.0) in
      let less : 32 - o % 32 ≤ 32 - n % 32 = omega (arith, e, row) in
      omega (arith, s.1 row, pow_mono {i = 32 - o % 32} {j = 32 - n % 32} less),
)

both : (n : ℕ) (m : List ℕ) → Words n m → Starts n (rows_of m) × (words_of_rows (rows_of m) ≡ m)
unfolding Words rows_of
both n [] h = (tt, words_none)
both n (w ∷ m) h =
    let i = both (offer_of w + 1) m h.2 in (
      lower n (offer_of w) (joined w (rows_of m)) h.0 (joined-Starts w (rows_of m) i.0),
      joined_words w h.1 (rows_of m) i.0 ∙ ap (λ (l : List ℕ). w ∷ l) i.1,
    )

-- a map's words, to rows and back
pub words_back : (n : ℕ) (m : List ℕ) → Words n m → words_of_rows (rows_of m) ≡ m
words_back n m h = (both n m h).1

-- the rows of a map are good and rise
pub rows_rise : (n : ℕ) (m : List ℕ) → Words n m → Rising (n / 32) (rows_of m)
unfolding Words rows_of
rows_rise n [] h = no_row _
rows_rise n (w ∷ m) h =
    lower_rising (n / 32) (offer_of w / 32) (joined w (rows_of m)) (omega (arith, h.0))
    (joined_rises w (rows_of m) (both (offer_of w + 1) m h.2).0 (rows_rise (offer_of w + 1) m h.2))
