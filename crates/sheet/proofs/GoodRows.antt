-- Rows that are good and rise, the word of a row's seat, and the row that a word begins or joins.
-- Assumes nothing.
use mathlib.Core.Path.{◌≡◌, refl, sym, subst}
use mathlib.Core.Bool.{Bool, cond}
use mathlib.Core.List.{List, [], ◌∷◌}
use Prim.Native.Nat.{ℕ, ◌+◌, ◌*◌, ◌%◌, ◌^◌, ◌≤◌, ◌<◌}
use native.Mathlib.Decide.{ℕ_discrete}
use native.Mathlib.Omega.{arith}
use borrow.Author.Tests.{eq-eqb, ne_eqb}
use lib.Count.{ones}
use lib.ListN.{length, get_or}
use Rattle.entry.specs.Word.{offer_of, price_of, put_of, Put}
use Rattle.sheet.specs.Sheet.{Row, row_of, alone, extended, joined}

-- a row whose number and mask are in range, with a price for each set bit
pub record GoodRow (r : Row) : Type 0 where
  pub small : r.number < 2 ^ 26
  pub some : 0 < r.mask
  pub fits : r.mask < 2 ^ 32
  pub count : length r.prices ≡ ones r.mask

-- prices are numbers of 32 bits
abbrev pub Priced : List ℕ → Type 0
Priced prices = (i : ℕ) → get_or prices i 0 < 2 ^ 32

-- good rows whose numbers rise strictly, the first at least n
pub data Rising : ℕ → List Row → Type 0 where
  no_row : (n : ℕ) → Rising n []
  next_row : (n : ℕ) (r : Row) (rs : List Row) → n ≤ r.number → GoodRow r → Priced r.prices → Rising (r.number + 1) rs
      → Rising n (r ∷ rs)

-- the rows behind a row lie above it
abbrev pub Above : ℕ → List Row → Type 0
Above n [] = Unit
Above n (r ∷ rs) = n < r.number

pub above : (n : ℕ) (rs : List Row) → Rising (n + 1) rs → Above n rs
above n [] h = tt
above n (r ∷ rs) (next_row _ _ _ l g p h) = omega (arith, l)

pub lower_rising : (n o : ℕ) (rs : List Row) → n ≤ o → Rising o rs → Rising n rs
lower_rising n o [] l r = no_row n
lower_rising n o (r ∷ rs) l (next_row _ _ _ k g p rest) = next_row n r rs (omega (arith, k)) g p rest

-- rows that rise are few
pub rows_few : (n : ℕ) (rs : List Row) → Rising n rs → n ≤ 2 ^ 26 → n + length rs ≤ 2 ^ 26
rows_few n [] h l = omega arith
rows_few n (r ∷ rs) (next_row _ _ _ k g p h) l = omega (arith, rows_few (r.number + 1) rs h (omega (arith, g.small)), k)

-- a word of a row's seat
module _ (n seat p : ℕ) (hn : n < 2 ^ 26) (hs : seat < 32) (hp : p < 2 ^ 32) where
  pub put_offer : offer_of (put_of (n * 32 + seat) p) ≡ n * 32 + seat
  put_offer = omega arith

  pub Put-kind : Put (put_of (n * 32 + seat) p)
  Put-kind = omega arith

  pub put_price : price_of (put_of (n * 32 + seat) p) ≡ p
  put_price = omega arith

  pub put_row : row_of (offer_of (put_of (n * 32 + seat) p)) ≡ n
  put_row = omega arith

  pub put_seat : offer_of (put_of (n * 32 + seat) p) % 32 ≡ seat
  put_seat = omega arith

-- a word joins the row behind it, or begins one
pub joined_same : (w : ℕ) (r : Row) (rs : List Row) → row_of (offer_of w) ≡ r.number → joined w (r ∷ rs) ≡ extended w r ∷ rs
joined_same w r rs e = rw (eq-eqb (row_of (offer_of w)) r.number e) refl

pub joined_apart : (w : ℕ) (r : Row) (rs : List Row) → (row_of (offer_of w) ≡ r.number → ⊥) → joined w (r ∷ rs) ≡ alone w ∷ r ∷ rs
joined_apart w r rs n = rw (ne_eqb (row_of (offer_of w)) r.number n) refl

pub joined-alone : (w : ℕ) (rs : List Row) → Above (row_of (offer_of w)) rs → joined w rs ≡ alone w ∷ rs
joined-alone w [] h = refl
joined-alone w (r ∷ rs) h = joined_apart w r rs (λ e. omega (arith, h))

-- what holds of the word's row alone, and of the row that it joins, holds of the rows
pub joined_by : (w : ℕ) (P : List Row → Type 0) (r : Row) (rs : List Row) → (row_of (offer_of w) ≡ r.number → P (extended w r ∷ rs))
    → ((row_of (offer_of w) ≡ r.number → ⊥) → P (alone w ∷ r ∷ rs)) → P (joined w (r ∷ rs))
joined_by w P r rs same other = go (ℕ_discrete (row_of (offer_of w)) r.number)
  where
    go : Dec (row_of (offer_of w) ≡ r.number) → P (joined w (r ∷ rs))
    go (yes e) =
        subst (λ (b : Bool). P (cond b (extended w r ∷ rs) (alone w ∷ r ∷ rs))) (sym (eq-eqb (row_of (offer_of w)) r.number e)) (same e)
    go (no n) =
        subst (λ (b : Bool). P (cond b (extended w r ∷ rs) (alone w ∷ r ∷ rs))) (sym (ne_eqb (row_of (offer_of w)) r.number n)) (other n)
