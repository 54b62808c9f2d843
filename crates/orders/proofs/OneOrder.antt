-- The effect of an order, an equation for each way it can go.
-- Assumes nothing.
use mathlib.Core.Path.{◌≡◌, ap, subst}
use mathlib.Core.Bool.{Bool, true, false, cond}
use Prim.Native.Nat.{ℕ, ◌+◌, ◌-◌, ◌*◌, ◌^◌, ◌≤◌, ◌<◌}
use native.Mathlib.Nat.{mul-le-mul_left}
use native.Mathlib.Decide.{dec_lt}
use native.Mathlib.Omega.{arith}
use Rattle.std.proofs.lemmas.Bool.Decides.{nat_tests}
use lib.Dec.{leb}
use Rattle.entry.specs.Word.{kind_of, offer_of, price_of, put_of, is_put, Valid}
use Rattle.changes.specs.Found.{Found}
use Rattle.answers.specs.declared.ground.Ground.TheVariants.{OrderNoPrice, PriceRange}
use Rattle.orders.specs.Effect.{Effect}
use Rattle.std.proofs.Common.{Some, None, Ok, Err}
use Rattle.orders.specs.Orders.{order_kind, order_amount, order_offer, Kind, lists, withdraws, raises, cuts, keeps, unknown, kind_named}
use Rattle.orders.specs.Effects.{sixteenths, put_at, with_price, raised, lowered, kept, effect_by, effect}

-- a share of a price is at most the price
pub share_small : (p n : ℕ) → n ≤ 16 → p * n ≤ p * 16
share_small p n h = mul-le-mul_left p h

pub sixteenths_small : (kind amount price : ℕ) → kind ≤ 31 → amount < 2 ^ 32 → price < 2 ^ 32 → sixteenths kind amount price < 2 ^ 32
unfolding sixteenths
sixteenths_small kind amount price k a p = omega (arith, share_small price (kind - 15) (omega arith))

pub put_fits : (offer price : ℕ) → price < 2 ^ 32 → put_at offer price ≡ Ok (put_of offer price)
unfolding put_at
put_fits offer price h = grind (arith, nat_tests)

pub put_over : (offer price : ℕ) → 2 ^ 32 ≤ price → put_at offer price ≡ Err PriceRange
unfolding put_at
put_over offer price h = grind (arith, nat_tests)

module _ (w : ℕ) (f : ℕ → Effect) where
  pub no_price : (kind_of w ≡ 1 → ⊥) → with_price (Some w) f ≡ Err OrderNoPrice
  unfolding with_price
  no_price n = grind (arith, nat_tests)

-- a word of kind 1 and its price, with what an order makes of it
module _ (offer amount w : ℕ) (put : kind_of w ≡ 1) where
  pub raise_over : 2 ^ 32 ≤ price_of w + amount → raised offer amount (Some w) ≡ Err PriceRange
  unfolding with_price put_at
  raise_over h = grind (arith, nat_tests)

  pub raise_fits : price_of w + amount < 2 ^ 32 → raised offer amount (Some w) ≡ Ok (put_of offer (price_of w + amount))
  unfolding with_price put_at
  raise_fits h = grind (arith, nat_tests)

  pub cut_under : price_of w < amount → lowered offer amount (Some w) ≡ Err PriceRange
  unfolding with_price put_at
  cut_under h = grind (arith, nat_tests)

  pub cut_fits : amount ≤ price_of w → lowered offer amount (Some w) ≡ Ok (put_of offer (price_of w - amount))
  unfolding with_price put_at
  cut_fits h = grind (arith, nat_tests)

  pub keep_fits : (kind price : ℕ) → price ≡ sixteenths kind amount (price_of w) → price < 2 ^ 32
      → kept kind offer amount (Some w) ≡ Ok (put_of offer price)
  unfolding with_price put_at
  keep_fits kind price e h = grind (arith, nat_tests)

-- an order of a kind does as the kind says
pub effect_as : (o : ℕ) (found : Found) {kind : Kind} → kind_named (order_kind o) ≡ kind → effect o found
    ≡ effect_by kind (order_kind o) (order_amount o) (order_offer o) found
unfolding effect
effect_as o found e = ap (λ (kind : Kind). effect_by kind (order_kind o) (order_amount o) (order_offer o) found) e

-- a word of the offer that is a change: of kind 1, or of kind 0 with price 0
abbrev pub Names : ℕ → ℕ → Type 0
Names offer w = (offer_of w ≡ offer) × Valid w

abbrev pub Changing : ℕ → Effect → Type 0
Changing offer (Ok w) = Names offer w
Changing offer (Err ground) = Unit

module _ (offer : ℕ) (small : offer < 2 ^ 31) where
  put_Changing : (price : ℕ) → Changing offer (put_at offer price)
  put_Changing price = go (dec_lt price (2 ^ 32))
    where
      go : Dec (price < 2 ^ 32) → Changing offer (put_at offer price)
      go (yes h) = rw (put_fits offer price h) (omega arith, (omega arith, λ z. absurd (omega arith)))
      go (no h) = rw (put_over offer price (omega arith)) tt

  price_Changing : (found : Found) (f : ℕ → Effect) → ((price : ℕ) → Changing offer (f price)) → Changing offer (with_price found f)
  unfolding with_price
  price_Changing (Some w) f h = go (is_put w)
    where
      go : (b : Bool) → Changing offer (cond b (f (price_of w)) (Err OrderNoPrice))
      go true = h (price_of w)
      go false = tt
  price_Changing None f h = tt

  cut_Changing : (amount price : ℕ) → Changing offer (cond (leb amount price) (put_at offer (price - amount)) (Err PriceRange))
  cut_Changing amount price = go (leb amount price)
    where
      go : (b : Bool) → Changing offer (cond b (put_at offer (price - amount)) (Err PriceRange))
      go true = put_Changing (price - amount)
      go false = tt

  by_Changing : (kind : Kind) (k amount : ℕ) (found : Found) → Changing offer (effect_by kind k amount offer found)
  by_Changing lists k amount found = put_Changing amount
  by_Changing withdraws k amount found = (omega arith, (omega arith, λ z. omega arith))
  by_Changing raises k amount found = price_Changing found _ (λ price. put_Changing (price + amount))
  by_Changing cuts k amount found = price_Changing found _ (λ price. cut_Changing amount price)
  by_Changing keeps k amount found = price_Changing found _ (λ price. put_Changing (sixteenths k amount price))
  by_Changing unknown k amount found = tt

-- an order that does not fail changes the price of its own offer
pub effect-Names : (o : ℕ) (found : Found) (w : ℕ) → effect o found ≡ Ok w → Names (order_offer o) w
unfolding effect
effect-Names o found w e =
    subst (Changing (order_offer o)) e
    (by_Changing (order_offer o) (omega arith) (kind_named (order_kind o)) (order_kind o) (order_amount o) found)
