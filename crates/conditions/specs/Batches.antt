-- Priced batches, of condition 2: the kinds of orders and what each does, the grounds that concern a batch in their order, and equations 5
-- and 6 of document 000, in document 01's words: "Applied to any map that agrees with the read set on its offers, it gives what running
-- the orders on that map gives".
-- Assumes nothing.
use Rattle.std.specs.Prelude.{◌≡◌, Bool, true, false, ◌||◌, List, [], ◌∷◌, ◌++◌, ℕ, zero, suc, ◌+◌, ◌-◌, ◌*◌, ◌^◌, ◌≤◌, ◌<◌, eqb, length, replicate}
use Rattle.entry.specs.Word.{price_of, put_of, none_of, is_put, Put}
use Rattle.changes.specs.Found.{Found}
use Rattle.std.specs.Prelude.{Some, None}
use Rattle.changes.specs.Calculus.{find, compose, apply}
use Rattle.changes.specs.Lists.{Changes, Map, is_list}
use Rattle.changes.specs.ReadSets.{over}
use Rattle.std.specs.Prelude.{Ok, Err}
use Rattle.answers.specs.declared.ground.Ground.{Ground}
use Rattle.answers.specs.declared.ground.Ground.TheVariants.{OrderNoPrice, PriceRange}
use Rattle.answers.specs.Numbers.{number_of}
use Rattle.orders.specs.Orders.{order_kind, order_amount, order_offer, is_allowed}
use Rattle.orders.specs.Orders.{Kind, lists, withdraws, raises, cuts, keeps, unknown, kind_named}
use Rattle.orders.specs.Effects.{sixteenths, effect}
use Rattle.execution.specs.Tests.{is_found, is_read, list_all}
use Rattle.execution.specs.Executing.{done, fails, next, priced}
use Rattle.batch.specs.Batches.{batch_grounds, checked, batch}
use Rattle.batch.specs.OnMaps.{difference, execute_on_map, on_done, Agrees, is_named}
use Rattle.conditions.specs.Grounds.{of_batch, numbers, once}

-- "0 lists at the amount; 1 withdraws, amount 0; 2 raises by the amount; 3 cuts by it; kinds 16 to 31 keep so many sixteenths", "All
-- other kinds are unknown": the kinds from 0 to 255
abbrev pub kind_table : List Kind
kind_table = (lists ∷ withdraws ∷ raises ∷ cuts ∷ []) ++ replicate 12 unknown ++ replicate 16 keeps ++ replicate 224 unknown

-- the kinds from a number on, so many of them
unfoldable pub kinds_from : ℕ → ℕ → List Kind
kinds_from kind zero = []
kinds_from kind (suc n) = kind_named kind ∷ kinds_from (kind + 1) n

-- "a raise, cut or sixteenths"
abbrev pub alters : Kind → Bool
alters lists = false
alters withdraws = false
alters raises = true
alters cuts = true
alters keeps = true
alters unknown = false

-- whether a price is shown at an offer
abbrev pub is_shown : Found → Bool
is_shown (Some w) = is_put w
is_shown None = false

-- how far two numbers are from each other
abbrev pub gap : ℕ → ℕ → ℕ
gap a b = (a - b) + (b - a)

-- how far a number of units is from so many sixteenths of a price, as a kind keeps them; told in sixteenths, so that it is whole
abbrev pub away_from : ℕ → ℕ → ℕ → ℕ
away_from kind price units = gap (16 * units) (price * (kind - 15))

pub record Batches : Type 0 where
  -- "An order is 64 bits, most significant first: kind 8 bits, amount 25 bits, offer 31 bits."
  pub fields : (kind amount offer : ℕ) → amount < 2 ^ 25 → offer < 2 ^ 31 → let o = kind * 2 ^ 56 + amount * 2 ^ 31 + offer in
      (order_kind o ≡ kind) × (order_amount o ≡ amount) × (order_offer o ≡ offer)
  pub kinds : kinds_from 0 256 ≡ kind_table
  -- an order that ground 7 lets pass: not one whose "kind is unknown, or a withdrawal has an amount other than 0"
  pub unknown_kinds : (o : ℕ) → kind_named (order_kind o) ≡ unknown → is_allowed o ≡ false
  pub withdrawals : (o : ℕ) → kind_named (order_kind o) ≡ withdraws → is_allowed o ≡ eqb (order_amount o) 0
  pub other_kinds : (o : ℕ) → (kind_named (order_kind o) ≡ unknown → ⊥) → (kind_named (order_kind o) ≡ withdraws → ⊥) → is_allowed o ≡ true
  -- grounds 6, 7 and 8 come first: "A list breaks its rules", "there are over 64 orders", "Some order's kind is unknown, or a withdrawal
  -- has an amount other than 0.", "Some order's offer isn't in the read set.";
  pub tested_first : (reads orders : List ℕ) → once (numbers (batch_grounds reads orders)) ≡ of_batch
  pub stopped : (reads orders : List ℕ) (room : ℕ) (reason : Ground) → checked reads orders ≡ Err reason
      → batch reads orders room ≡ fails (number_of reason)
  pub broken_read_set : (reads orders : List ℕ) (room : ℕ) → is_list reads ≡ false → batch reads orders room ≡ fails 6
  pub over_64_orders : (reads orders : List ℕ) (room : ℕ) → 65 ≤ length orders → batch reads orders room ≡ fails 6
  pub order_not_allowed : (reads earlier later : List ℕ) (o room : ℕ) → let orders = earlier ++ o ∷ later in
      is_list reads ≡ true → length orders ≤ 64 → is_allowed o ≡ false → batch reads orders room ≡ fails 7
  pub offer_not_read : (reads earlier later : List ℕ) (o room : ℕ) → let orders = earlier ++ o ∷ later in
      is_list reads ≡ true → length orders ≤ 64 → list_all is_allowed orders ≡ true → is_found (find (order_offer o) reads) ≡ false
      → batch reads orders room ≡ fails 8
  pub passes : (reads orders : List ℕ) → is_list reads ≡ true → length orders ≤ 64
      → list_all is_allowed orders ≡ true → list_all (is_read reads) orders ≡ true → checked reads orders ≡ (Ok tt)
  -- "Orders run in turn, each seeing the earlier ones.": the last order is executed on what the earlier ones left, and if one of those
  -- fails, it is the one that counts;
  pub no_orders : (reads : List ℕ) → priced reads [] ≡ done []
  pub last_order : (reads orders d : List ℕ) (o : ℕ) → priced reads orders ≡ done d
      → priced reads (orders ++ o ∷ []) ≡ next (effect o (find (order_offer o) (over reads d))) (λ w. done (compose d (w ∷ [])))
  pub first_fails : (reads orders later : List ℕ) (n : ℕ) → priced reads orders ≡ fails n → priced reads (orders ++ later) ≡ fails n
  -- then 9 or 10, of the first order that fails,
  pub first_that_fails : (reads orders : List ℕ) (room n : ℕ) → checked reads orders ≡ (Ok tt) → priced reads orders ≡ fails n
      → (batch reads orders room ≡ fails n) × (eqb n 9 || eqb n 10 ≡ true)
  -- and then 17
  pub too_short : (reads orders d : List ℕ) (room : ℕ) → checked reads orders ≡ (Ok tt) → priced reads orders ≡ done d
      → room < length d → batch reads orders room ≡ fails 17
  pub accepted : (reads orders d : List ℕ) (room : ℕ) → checked reads orders ≡ (Ok tt) → priced reads orders ≡ done d
      → length d ≤ room → batch reads orders room ≡ done d
  -- what each order does: "0 lists at the amount; 1 withdraws",
  pub lists_at : (o : ℕ) (found : Found) → order_kind o ≡ 0 → effect o found ≡ Ok (put_of (order_offer o) (order_amount o))
  pub withdraws_it : (o : ℕ) (found : Found) → order_kind o ≡ 1 → effect o found ≡ Ok (none_of (order_offer o))
  -- "2 raises by the amount; 3 cuts by it", or "takes a price below 0 or above 2^32 − 1",
  pub raise_in_range : (o w : ℕ) → order_kind o ≡ 2 → Put w → price_of w + order_amount o < 2 ^ 32
      → effect o (Some w) ≡ Ok (put_of (order_offer o) (price_of w + order_amount o))
  pub raise_too_high : (o w : ℕ) → order_kind o ≡ 2 → Put w → 2 ^ 32 ≤ price_of w + order_amount o → effect o (Some w) ≡ Err PriceRange
  pub cut_in_range : (o w : ℕ) → order_kind o ≡ 3 → Put w → order_amount o ≤ price_of w
      → effect o (Some w) ≡ Ok (put_of (order_offer o) (price_of w - order_amount o))
  pub cut_too_deep : (o w : ℕ) → order_kind o ≡ 3 → Put w → price_of w < order_amount o → effect o (Some w) ≡ Err PriceRange
  -- "kinds 16 to 31 keep so many sixteenths", and never meet 10;
  pub keeps_sixteenths : (o w : ℕ) → 16 ≤ order_kind o → order_kind o ≤ 31 → Put w
      → effect o (Some w) ≡ Ok (put_of (order_offer o) (sixteenths (order_kind o) (order_amount o) (price_of w)))
  -- and ground 9: "a raise, cut or sixteenths on an offer without a price"
  pub without_a_price : (o : ℕ) (found : Found) → alters (kind_named (order_kind o)) ≡ true → is_shown found ≡ false
      → effect o found ≡ Err OrderNoPrice
  -- "Kinds 16 to 31 now round to the nearest unit, a half upward" (document 02, Q-3): with amount 0 no number of units is nearer, and one
  -- that is as near is not above it
  pub nearest : (kind price units : ℕ) → away_from kind price (sixteenths kind 0 price) ≤ away_from kind price units
  pub half_upward : (kind price units : ℕ) → away_from kind price units ≡ away_from kind price (sixteenths kind 0 price)
      → units ≤ sixteenths kind 0 price
  -- "then the amount if that is more" (document 02, Q-3)
  pub amount_if_more : (kind amount price : ℕ) → sixteenths kind 0 price < amount → sixteenths kind amount price ≡ amount
  pub amount_not_more : (kind amount price : ℕ) → amount ≤ sixteenths kind 0 price → sixteenths kind amount price ≡ sixteenths kind 0 price
  -- "The output is one word per offer named, rising, with its final price or removal"
  pub output_rises : (reads orders d : List ℕ) (room : ℕ) → batch reads orders room ≡ done d → Changes d
  pub output_named : (reads orders d : List ℕ) (room : ℕ) → batch reads orders room ≡ done d
      → (offer : ℕ) → is_found (find offer d) ≡ is_named offer orders
  -- "Applied to any map that agrees with the read set on its offers, it gives what running the orders on that map gives"
  pub output_on_map : (reads orders d : List ℕ) (room : ℕ) → batch reads orders room ≡ done d
      → (m : List ℕ) → Map m → Agrees m reads → execute_on_map m orders ≡ done (apply m d)
  -- equation 5: the changes that the orders come to on a map, applied to it, give what executing the orders on it gives
  pub equation_5 : (m orders : List ℕ) → Map m → on_done (apply m) (difference m orders) ≡ execute_on_map m orders
  -- equation 6: on a read set that the map agrees with, and that has the offer of every order, the orders come to the same
  pub equation_6 : (m reads orders : List ℕ) → Map m → Agrees m reads → list_all (is_read reads) orders ≡ true
      → priced reads orders ≡ difference m orders
