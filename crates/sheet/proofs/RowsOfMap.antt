-- The rows of a map one by one: each is good, their numbers rise, and each word's price stands in its row at the place of its seat.
-- Assumes nothing.
use mathlib.Core.Path.{◌≡◌, sym, ap, subst, ◌∙◌}
use mathlib.Core.List.{List, [], ◌∷◌}
use Prim.Native.Nat.{ℕ, zero, suc, ◌+◌, ◌-◌, ◌/◌, ◌%◌, ◌^◌, ◌≤◌, ◌<◌}
use native.Mathlib.Omega.{arith}
use lib.ListN.{length, get_or}
use Rattle.entry.specs.Word.{offer_of, price_of}
use Rattle.changes.specs.Lists.{All}
use Rattle.sheet.specs.Sheet.{Row, place_in, seat_word, seat_words, words_of_rows}
use Rattle.sheet.proofs.Clauses.{words_none, words_more}
use Rattle.sheet.proofs.Each.{all_both, all_map}
use Rattle.sheet.proofs.GoodRows.{GoodRow, Priced, Rising, next_row, put_price, put_row, put_seat}
use Rattle.sheet.proofs.Seats.{seats_by}

-- the k-th of some rows
abbrev pub row_at : List Row → ℕ → Row
row_at rs k = get_or rs k (record { number = 0; mask = 0; prices = [] })

pub good_at : (n : ℕ) (rs : List Row) → Rising n rs → (k : ℕ) → k < length rs → GoodRow (row_at rs k) × (n ≤ (row_at rs k).number)
good_at n [] h k l = absurd (omega arith)
good_at n (r ∷ rs) (next_row _ _ _ a g p h) zero l = (g, a)
good_at n (r ∷ rs) (next_row _ _ _ a g p h) (suc k) l =
    let rest = good_at (r.number + 1) rs h k (omega arith) in
    (rest.0, omega (arith, rest.1, a))

pub rise_at : (n : ℕ) (rs : List Row) → Rising n rs → (j k : ℕ) → j < k → k < length rs → (row_at rs j).number < (row_at rs k).number
rise_at n [] h j k i l = absurd (omega arith)
rise_at n (r ∷ rs) h j zero i l = absurd (omega arith)
rise_at n (r ∷ rs) (next_row _ _ _ a g p h) zero (suc k) i l = omega (arith, (good_at (r.number + 1) rs h k (omega arith)).1)
rise_at n (r ∷ rs) (next_row _ _ _ a g p h) (suc j) (suc k) i l = rise_at (r.number + 1) rs h j k (omega arith) (omega arith)

-- a row has the seat of a word's offer, and at the place of that seat the word's price
abbrev Shows : ℕ → Row → Type 0
Shows w r =
    (r.number ≡ offer_of w / 32)
    × (r.mask / 2 ^ (31 - offer_of w % 32) % 2 ≡ 1)
    × (get_or r.prices (place_in r.mask (offer_of w % 32)) 0 ≡ price_of w)

-- one of some rows does so
abbrev pub Shown : List Row → ℕ → Type 0
Shown rs w = (k : ℕ) × (k < length rs) × Shows w (row_at rs k)

-- each word of a good row's seats
row_shows : (r : Row) → GoodRow r → Priced r.prices → All (λ w. Shows w r) (seat_words r 32)
unfolding All
row_shows r g priced = seats_by r (λ (k : ℕ) (l : List ℕ). All (λ w. Shows w r) l) tt with-seat (λ k l h e i. i) 32 (omega arith)
  where
    with-seat : (k : ℕ) (l : List ℕ) → suc k ≤ 32 → r.mask / 2 ^ k % 2 ≡ 1 → All (λ w. Shows w r) l
        → All (λ w. Shows w r) (seat_word r (31 - k) ∷ l)
    with-seat k l h e i =
        let price = get_or r.prices (place_in r.mask (31 - k)) 0 in
        let small : price < 2 ^ 32 = priced (place_in r.mask (31 - k)) in
        let seat : offer_of (seat_word r (31 - k)) % 32 ≡ 31 - k = put_seat r.number (31 - k) price g.small (omega arith) small in
        let left : 31 - offer_of (seat_word r (31 - k)) % 32 ≡ k = omega (arith, seat) in (
          (
            sym (put_row r.number (31 - k) price g.small (omega arith) small),
            ap (λ (n : ℕ). r.mask / 2 ^ n % 2) left ∙ e,
            ap (λ (n : ℕ). get_or r.prices (place_in r.mask n) 0) seat
                ∙ sym (put_price r.number (31 - k) price g.small (omega arith) small),
          ),
          i,
        )

-- each word of rows that rise
pub rows_show : (n : ℕ) (rs : List Row) → Rising n rs → All (Shown rs) (words_of_rows rs)
unfolding All
rows_show n [] h = subst (All (Shown [])) (sym words_none) tt
rows_show n (r ∷ rs) (next_row _ _ _ a g p h) =
    subst (All (Shown (r ∷ rs))) (sym (words_more r rs))
    (all_both (Shown (r ∷ rs)) (seat_words r 32) (words_of_rows rs)
    (all_map (λ w s. (0, omega arith, s)) (seat_words r 32) (row_shows r g p))
    (all_map (λ w s. (suc s.0, omega (arith, s.1), s.2)) (words_of_rows rs) (rows_show (r.number + 1) rs h)))
