-- The order word and its kinds (document 01, "Batches").
-- Assumes nothing.
use Rattle.std.specs.Prelude.{Bool, true, false, ◌&&◌, cond, ℕ, ◌/◌, ◌%◌, ◌^◌, eqb, leb}

-- "An order is 64 bits, most significant first: kind 8 bits, amount 25 bits, offer 31 bits."
abbrev pub order_kind : ℕ → ℕ
order_kind o = o / 2 ^ 56

abbrev pub order_amount : ℕ → ℕ
order_amount o = o / 2 ^ 31 % 2 ^ 25

abbrev pub order_offer : ℕ → ℕ
order_offer o = o % 2 ^ 31

-- "0 lists at the amount; 1 withdraws, amount 0; 2 raises by the amount; 3 cuts by it; kinds 16 to 31 keep so many sixteenths", "All
-- other kinds are unknown."
pub data Kind : Type 0 where
  lists withdraws raises cuts keeps unknown : Kind

unfoldable pub kind_named : ℕ → Kind
kind_named k =
    cond (eqb k 0) lists
    (cond (eqb k 1) withdraws
    (cond (eqb k 2) raises
    (cond (eqb k 3) cuts
    (cond (leb 16 k && leb k 31) keeps unknown))))

-- Ground 7: "Some order's kind is unknown, or a withdrawal has an amount other than 0."
abbrev pub allowed_with : Kind → ℕ → Bool
allowed_with lists amount = true
allowed_with withdraws amount = eqb amount 0
allowed_with raises amount = true
allowed_with cuts amount = true
allowed_with keeps amount = true
allowed_with unknown amount = false

unfoldable pub is_allowed : ℕ → Bool
is_allowed o = allowed_with (kind_named (order_kind o)) (order_amount o)
