-- What one order does, seen what is shown at its offer (document 01, "Batches" and grounds 9 and 10; document 02, Q-3).
-- Assumes nothing.
use Rattle.std.specs.Prelude.{◌≡◌, cond, ℕ, ◌+◌, ◌-◌, ◌*◌, ◌/◌, ◌^◌, max, leb, ltb}
use Rattle.entry.specs.Word.{price_of, put_of, none_of, is_put}
use Rattle.changes.specs.Found.{Found}
use Rattle.answers.specs.declared.ground.Ground.TheVariants.{BadOrder, OrderNoPrice, PriceRange}
use Rattle.answers.specs.Answers.{Said, accepted, refused}
use Rattle.answers.specs.Numbers.{number_of}
use Rattle.orders.specs.Effect.{Effect}
use Rattle.std.specs.Prelude.{Some, None, Ok, Err}
use Rattle.orders.specs.Orders.{order_kind, order_amount, order_offer, Kind, lists, withdraws, raises, cuts, keeps, unknown, kind_named}

-- what an effect says in document 01's terms: the entry word, or the number of the ground
abbrev pub said_by_effect : Effect → Said
said_by_effect (Ok w) = accepted w
said_by_effect (Err reason) = refused (number_of reason)

-- The promise of an effect: it is the one that is meant, and says the same.
abbrev pub Does : Effect → Effect → Type 0
Does done meant = (done ≡ meant) × (said_by_effect done ≡ said_by_effect meant)

-- "(price × (kind − 15) + 8) / 16, rounded down, then the amount if that is more" (document 02, Q-3)
unfoldable pub sixteenths : ℕ → ℕ → ℕ → ℕ
sixteenths kind amount price = max ((price * (kind - 15) + 8) / 16) amount

-- the put of a new price, which ground 10 keeps to 2^32 − 1
unfoldable pub put_at : ℕ → ℕ → Effect
put_at offer price = cond (ltb price (2 ^ 32)) (Ok (put_of offer price)) (Err PriceRange)

-- what is done with the price shown; ground 9 where none is
unfoldable pub with_price : Found → (ℕ → Effect) → Effect
with_price (Some w) f = cond (is_put w) (f (price_of w)) (Err OrderNoPrice)
with_price None f = Err OrderNoPrice

-- a raise, a cut and sixteenths, of what is found at the offer
abbrev pub raised : ℕ → ℕ → Found → Effect
raised offer amount found = with_price found (λ price. put_at offer (price + amount))

abbrev pub lowered : ℕ → ℕ → Found → Effect
lowered offer amount found = with_price found (λ price. cond (leb amount price) (put_at offer (price - amount)) (Err PriceRange))

abbrev pub kept : ℕ → ℕ → ℕ → Found → Effect
kept kind offer amount found = with_price found (λ price. put_at offer (sixteenths kind amount price))

-- by kinds; an unknown one fails by ground 7, which is tested before any order is executed
abbrev pub effect_by : Kind → ℕ → ℕ → ℕ → Found → Effect
effect_by lists kind amount offer found = put_at offer amount
effect_by withdraws kind amount offer found = Ok (none_of offer)
effect_by raises kind amount offer found = raised offer amount found
effect_by cuts kind amount offer found = lowered offer amount found
effect_by keeps kind amount offer found = kept kind offer amount found
effect_by unknown kind amount offer found = Err BadOrder

unfoldable pub effect : ℕ → Found → Effect
effect o found = effect_by (kind_named (order_kind o)) (order_kind o) (order_amount o) (order_offer o) found
