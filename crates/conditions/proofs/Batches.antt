-- Priced batches, proved.
-- Assumes nothing.
use mathlib.Core.Path.{◌≡◌, refl, sym, ap, ◌∙◌}
use mathlib.Core.Bool.{Bool, true, false, cond, not, ◌||◌}
use mathlib.Core.List.{List, [], ◌∷◌, ◌++◌}
use Prim.Native.Nat.{ℕ, ◌+◌, ◌-◌, ◌^◌, ◌≤◌, ◌<◌}
use native.Mathlib.Omega.{arith}
use borrow.Author.Tests.{eqb-true, not-false}
use lib.Dec.{eqb, ltb, leb}
use lib.ListN.{length}
use Rattle.entry.specs.Word.{is_put, Put, price_of, put_of, none_of}
use Rattle.changes.specs.Found.{Found}
use Rattle.std.proofs.Common.{Some, None}
use Rattle.changes.specs.Calculus.{find, compose}
use Rattle.changes.specs.Lists.{is_list}
use Rattle.changes.specs.ReadSets.{over}
use Rattle.changes.proofs.ListTest.{and_both}
use Rattle.answers.specs.Check.{Check}
use Rattle.std.proofs.Common.{Ok, Err}
use Rattle.answers.specs.declared.ground.Ground.{Ground}
use Rattle.answers.specs.declared.ground.Ground.TheVariants.{BadList, BadOrder, OfferNotRead, OrderNoPrice, PriceRange}
use Rattle.answers.specs.Answers.{ground_in, said_by_check}
use Rattle.answers.specs.First.{met, first}
use Rattle.answers.specs.Numbers.{number_of}
use Rattle.answers.proofs.Firsts.{passed_not}
use Rattle.orders.specs.Effect.{Effect}
use Rattle.orders.specs.Orders.{Kind, lists, withdraws, raises, cuts, keeps, unknown, kind_named, order_kind, order_amount}
use Rattle.orders.specs.Orders.{order_offer, allowed_with, is_allowed}
use Rattle.orders.specs.Effects.{put_at, with_price, sixteenths, effect_by, effect}
use Rattle.orders.proofs.OneOrder.{sixteenths_small, put_fits, raise_fits, raise_over, cut_fits, cut_under, keep_fits, effect_as}
use Rattle.orders.proofs.OrderKinds.{kind_lists, kind_withdraws, kind_raises, kind_cuts, kind_keeps}
use Rattle.execution.specs.Executing.{Executed, done, fails, next, execute, priced}
use Rattle.execution.specs.Tests.{is_read, list_all}
use Rattle.batch.specs.Batches.{checked, fitting, batch}
use Rattle.batch.proofs.BatchChecks.{batch_stopped, batch_executes, fits, too_short, stop_list, stop_many, stop_order, stop_read, passes}
use Rattle.batch.proofs.Theorems as theorems
use Rattle.conditions.specs.Grounds.{numbers, once}
use Rattle.conditions.proofs.InTurn.{one_fails, no_orders, last_order, first_fails}
use Rattle.conditions.proofs.Refusals.{number_range}
use Rattle.conditions.specs.Batches.{kinds_from, alters, is_shown, away_from, Batches}

-- the grounds by which an order that passed ground 7 can fail
abbrev nine_or_ten : ℕ → Bool
nine_or_ten n = eqb n 9 || eqb n 10

abbrev number_in : Effect → ℕ
number_in (Ok w) = 0
number_in (Err ground) = number_of ground

number_is : (n m : ℕ) → fails n ≡ fails m → n ≡ m
number_is n m e = cc

abbrev FailsSo : Effect → Type 0
FailsSo e = (ground : Ground) → e ≡ Err ground → nine_or_ten (number_of ground) ≡ true

-- a test that fails by one of the two, or goes on
by_test : (t : Bool) (f : Effect) (g : Ground) → nine_or_ten (number_of g) ≡ true → FailsSo f → FailsSo (cond t f (Err g))
by_test true f g n h ground e = h ground e
by_test false f g n h ground e = ap (λ (x : Effect). nine_or_ten (number_in x)) (sym e) ∙ n

changed : (w : ℕ) → FailsSo (Ok w)
changed w ground e = absurd (let z : ◌≡◌ {A = ℕ} 0 1 = cc in omega arith)

put_fails : (offer price : ℕ) → FailsSo (put_at offer price)
unfolding put_at
put_fails offer price = by_test (ltb price (2 ^ 32)) (Ok (put_of offer price)) PriceRange refl (changed (put_of offer price))

with_price_lem : (found : Found) (f : ℕ → Effect) → ((price : ℕ) → FailsSo (f price)) → FailsSo (with_price found f)
unfolding with_price
with_price_lem (Some w) f h = by_test (is_put w) (f (price_of w)) OrderNoPrice refl (h (price_of w))
with_price_lem None f h =
    by_test false (Err OrderNoPrice) OrderNoPrice refl (λ ground e. ap (λ (x : Effect). nine_or_ten (number_in x)) (sym e))

by_kind : (named : Kind) (kind amount offer : ℕ) (found : Found) → allowed_with named amount ≡ true
    → FailsSo (effect_by named kind amount offer found)
by_kind lists kind amount offer found y = put_fails offer amount
by_kind withdraws kind amount offer found y = changed (none_of offer)
by_kind raises kind amount offer found y =
    with_price_lem found (λ price. put_at offer (price + amount)) (λ price. put_fails offer (price + amount))
by_kind cuts kind amount offer found y =
    with_price_lem found (λ price. cond (leb amount price) (put_at offer (price - amount)) (Err PriceRange))
    (λ price. by_test (leb amount price) (put_at offer (price - amount)) PriceRange refl (put_fails offer (price - amount)))
by_kind keeps kind amount offer found y =
    with_price_lem found (λ price. put_at offer (sixteenths kind amount price)) (λ price. put_fails offer (sixteenths kind amount price))
by_kind unknown kind amount offer found y = absurd (let z : ◌≡◌ {A = ℕ} 0 1 = cc in omega arith)

effect_fails : (o : ℕ) (found : Found) → is_allowed o ≡ true → FailsSo (effect o found)
unfolding effect is_allowed
effect_fails o found y = by_kind (kind_named (order_kind o)) (order_kind o) (order_amount o) (order_offer o) found y

-- the first order that fails
next-fails : (f : Effect) (rest : ℕ → Executed) (n : ℕ) → FailsSo f → ((w : ℕ) → rest w ≡ fails n → nine_or_ten n ≡ true)
    → next f rest ≡ fails n → nine_or_ten n ≡ true
next-fails (Ok w) rest n h go e = go w e
next-fails (Err ground) rest n h go e = ap nine_or_ten (sym (number_is (number_of ground) n e)) ∙ h ground refl

execute-fails : (see : List ℕ → ℕ → Found) (d os : List ℕ) (n : ℕ) → list_all is_allowed os ≡ true → execute see d os ≡ fails n
    → nine_or_ten n ≡ true
unfolding execute list_all
execute-fails see d [] n y e = absurd (let z : ◌≡◌ {A = ℕ} 0 1 = cc in omega arith)
execute-fails see d (o ∷ os) n y e =
    let b = and_both (is_allowed o) (list_all is_allowed os) y in
    next-fails (effect o (see d (order_offer o))) (λ w. execute see (compose d (w ∷ [])) os) n
    (effect_fails o (see d (order_offer o)) b.0) (λ w. execute-fails see (compose d (w ∷ [])) os n b.1) e

-- over 64 orders are ground 6, whether the read set is a list or not
over_64 : (reads orders : List ℕ) → 65 ≤ length orders → checked reads orders ≡ Err BadList
over_64 reads orders h = go (is_list reads) refl
  where
    go : (t : Bool) → is_list reads ≡ t → checked reads orders ≡ Err BadList
    go true e = stop_many reads orders e (omega arith)
    go false e = stop_list reads orders e

-- a batch that passed has orders of known kinds
allowed : (reads orders : List ℕ) → checked reads orders ≡ (Ok tt) → list_all is_allowed orders ≡ true
unfolding checked
allowed reads orders e =
    let a = passed_not _ _ _ e in
    let b = passed_not _ _ _ a.1 in
    not-false _ (passed_not _ _ _ b.1).0

-- so many sixteenths of a price
nearest : (kind price units : ℕ) → away_from kind price (sixteenths kind 0 price) ≤ away_from kind price units
unfolding sixteenths
nearest kind price units = omega arith

half_upward : (kind price units : ℕ) → away_from kind price units ≡ away_from kind price (sixteenths kind 0 price)
    → units ≤ sixteenths kind 0 price
unfolding sixteenths
half_upward kind price units e = omega (arith, e)

amount_if_more : (kind amount price : ℕ) → sixteenths kind 0 price < amount → sixteenths kind amount price ≡ amount
unfolding sixteenths
amount_if_more kind amount price h = omega arith

amount_not_more : (kind amount price : ℕ) → amount ≤ sixteenths kind 0 price → sixteenths kind amount price ≡ sixteenths kind 0 price
unfolding sixteenths
amount_not_more kind amount price h = omega arith

-- the kinds that ground 7 lets pass
unknown_kinds : (o : ℕ) → kind_named (order_kind o) ≡ unknown → is_allowed o ≡ false
unfolding is_allowed
unknown_kinds o e = ap (λ (k : Kind). allowed_with k (order_amount o)) e

withdrawals : (o : ℕ) → kind_named (order_kind o) ≡ withdraws → is_allowed o ≡ eqb (order_amount o) 0
unfolding is_allowed
withdrawals o e = ap (λ (k : Kind). allowed_with k (order_amount o)) e

other_allowed : (k : Kind) (amount : ℕ) → (k ≡ unknown → ⊥) → (k ≡ withdraws → ⊥) → allowed_with k amount ≡ true
other_allowed lists amount m n = refl
other_allowed withdraws amount m n = absurd (n refl)
other_allowed raises amount m n = refl
other_allowed cuts amount m n = refl
other_allowed keeps amount m n = refl
other_allowed unknown amount m n = absurd (m refl)

other_kinds : (o : ℕ) → (kind_named (order_kind o) ≡ unknown → ⊥) → (kind_named (order_kind o) ≡ withdraws → ⊥) → is_allowed o ≡ true
unfolding is_allowed
other_kinds o = other_allowed (kind_named (order_kind o)) (order_amount o)

-- ground 9
none_shown : (found : Found) (f : ℕ → Effect) → is_shown found ≡ false → with_price found f ≡ Err OrderNoPrice
unfolding with_price
none_shown (Some w) f e = rw e refl
none_shown None f e = refl

none_by_kind : (named : Kind) (kind amount offer : ℕ) (found : Found) → alters named ≡ true → is_shown found ≡ false
    → effect_by named kind amount offer found ≡ Err OrderNoPrice
none_by_kind lists kind amount offer found y e = absurd (let z : ◌≡◌ {A = ℕ} 0 1 = cc in omega arith)
none_by_kind withdraws kind amount offer found y e = absurd (let z : ◌≡◌ {A = ℕ} 0 1 = cc in omega arith)
none_by_kind raises kind amount offer found y e = none_shown found _ e
none_by_kind cuts kind amount offer found y e = none_shown found _ e
none_by_kind keeps kind amount offer found y e = none_shown found _ e
none_by_kind unknown kind amount offer found y e = absurd (let z : ◌≡◌ {A = ℕ} 0 1 = cc in omega arith)

without_a_price : (o : ℕ) (found : Found) → alters (kind_named (order_kind o)) ≡ true → is_shown found ≡ false
    → effect o found ≡ Err OrderNoPrice
unfolding effect
without_a_price o found = none_by_kind (kind_named (order_kind o)) (order_kind o) (order_amount o) (order_offer o) found

-- what orders make of a price that is shown
module _ (o w : ℕ) (put : Put w) where
  raise_low : order_kind o ≡ 2 → price_of w + order_amount o < 2 ^ 32
      → effect o (Some w) ≡ Ok (put_of (order_offer o) (price_of w + order_amount o))
  raise_low e h = effect_as o (Some w) (kind_raises (order_kind o) e) ∙ raise_fits (order_offer o) (order_amount o) w put h

  raise_high : order_kind o ≡ 2 → 2 ^ 32 ≤ price_of w + order_amount o → effect o (Some w) ≡ Err PriceRange
  raise_high e h = effect_as o (Some w) (kind_raises (order_kind o) e) ∙ raise_over (order_offer o) (order_amount o) w put h

  cut_low : order_kind o ≡ 3 → order_amount o ≤ price_of w → effect o (Some w)
      ≡ Ok (put_of (order_offer o) (price_of w - order_amount o))
  cut_low e h = effect_as o (Some w) (kind_cuts (order_kind o) e) ∙ cut_fits (order_offer o) (order_amount o) w put h

  cut_deep : order_kind o ≡ 3 → price_of w < order_amount o → effect o (Some w) ≡ Err PriceRange
  cut_deep e h = effect_as o (Some w) (kind_cuts (order_kind o) e) ∙ cut_under (order_offer o) (order_amount o) w put h

  keeps_share : 16 ≤ order_kind o → order_kind o ≤ 31
      → effect o (Some w) ≡ Ok (put_of (order_offer o) (sixteenths (order_kind o) (order_amount o) (price_of w)))
  keeps_share l h =
      effect_as o (Some w) (kind_keeps (order_kind o) l h) ∙ keep_fits (order_offer o) (order_amount o) w put (order_kind o) _ refl
      (sixteenths_small (order_kind o) (order_amount o) (price_of w) h (omega arith) (omega arith))

-- the number by which a batch is refused
tested_number : (a b c d : Bool) (ground : Ground)
    → first (met a BadList ∷ met b BadList ∷ met c BadOrder ∷ met d OfferNotRead ∷ []) ≡ Err ground → number_of ground ≤ 8
unfolding first
tested_number true b c d ground e = omega (arith, ap (λ (k : Check). ground_in (said_by_check k)) e)
tested_number false true c d ground e = omega (arith, ap (λ (k : Check). ground_in (said_by_check k)) e)
tested_number false false true d ground e = omega (arith, ap (λ (k : Check). ground_in (said_by_check k)) e)
tested_number false false false true ground e = omega (arith, ap (λ (k : Check). ground_in (said_by_check k)) e)
tested_number false false false false ground e = omega (arith, ap (λ (k : Check). ground_in (said_by_check k)) e)

stopped_number : (reads orders : List ℕ) (ground : Ground) → checked reads orders ≡ Err ground → number_of ground ≤ 8
unfolding checked
stopped_number reads orders =
    tested_number (not (is_list reads)) (ltb 64 (length orders)) (not (list_all is_allowed orders)) (not (list_all (is_read reads) orders))

low_number : (n : ℕ) → nine_or_ten n ≡ true → (1 ≤ n) × (n ≤ 17)
low_number n e = go (eqb n 9) refl (eqb n 10) refl e
  where
    go : (a : Bool) → eqb n 9 ≡ a → (b : Bool) → eqb n 10 ≡ b → a || b ≡ true → (1 ≤ n) × (n ≤ 17)
    go true i b j e = (omega (arith, eqb-true n 9 i), omega (arith, eqb-true n 9 i))
    go false i true j e = (omega (arith, eqb-true n 10 j), omega (arith, eqb-true n 10 j))
    go false i false j e = absurd (let z : ◌≡◌ {A = ℕ} 0 1 = cc in omega arith)

priced-fails : (reads orders : List ℕ) (n : ℕ) → checked reads orders ≡ (Ok tt) → priced reads orders ≡ fails n → nine_or_ten n ≡ true
unfolding priced
priced-fails reads orders n c p = execute-fails (λ d offer. find offer (over reads d)) [] orders n (allowed reads orders c) p

short_fails : (room n : ℕ) (d : List ℕ) → fitting room (done d) ≡ fails n → (1 ≤ n) × (n ≤ 17)
short_fails room n d = go (leb (length d) room)
  where
    go : (t : Bool) → cond t (done d) (fails 17) ≡ fails n → (1 ≤ n) × (n ≤ 17)
    go true e = absurd (let z : ◌≡◌ {A = ℕ} 0 1 = cc in omega arith)
    go false e = (omega (arith, number_is 17 n e), omega (arith, number_is 17 n e))

module _ (reads orders : List ℕ) (room n : ℕ) (e : batch reads orders room ≡ fails n) where
  by_executed : (executed : Executed) → priced reads orders ≡ executed → checked reads orders ≡ (Ok tt) → (1 ≤ n) × (n ≤ 17)
  by_executed (fails k) p c =
      let same = number_is k n (sym (batch_executes reads orders room c ∙ ap (fitting room) p) ∙ e) in
      let low = low_number k (priced-fails reads orders k c p) in
      (omega (arith, same, low.0), omega (arith, same, low.1))
  by_executed (done d) p c = short_fails room n d (sym (batch_executes reads orders room c ∙ ap (fitting room) p) ∙ e)

  by_check : (c : Check) → checked reads orders ≡ c → (1 ≤ n) × (n ≤ 17)
  by_check (Ok tt) c = by_executed (priced reads orders) refl c
  by_check (Err ground) c =
      let same = number_is (number_of ground) n (sym (batch_stopped reads orders room c) ∙ e) in
      (omega (arith, same, (number_range ground).0), omega (arith, same, stopped_number reads orders ground c))

  pub batch_number : (1 ≤ n) × (n ≤ 17)
  batch_number = by_check (checked reads orders) refl

pub batches : Batches
unfolding kinds_from kind_named numbers once is_read
batches = record {
  fields = λ kind amount offer a b. (omega arith, omega arith, omega arith);
  kinds = refl;
  unknown_kinds = unknown_kinds;
  withdrawals = withdrawals;
  other_kinds = other_kinds;
  tested_first = λ reads orders. refl;
  stopped = λ reads orders room ground e. batch_stopped reads orders room e;
  broken_read_set = λ reads orders room e. batch_stopped reads orders room (stop_list reads orders e);
  over_64_orders = λ reads orders room h. batch_stopped reads orders room (over_64 reads orders h);
  order_not_allowed = λ reads earlier later o room l h e. batch_stopped reads (earlier ++ o ∷ later) room
      (stop_order reads (earlier ++ o ∷ later) l h (one_fails is_allowed earlier later o e));
  offer_not_read = λ reads earlier later o room l h a e. batch_stopped reads (earlier ++ o ∷ later) room
      (stop_read reads (earlier ++ o ∷ later) l h a (one_fails (is_read reads) earlier later o e));
  passes = passes;
  no_orders = no_orders;
  last_order = last_order;
  first_fails = first_fails;
  first_that_fails = λ reads orders room n e p. (
    batch_executes reads orders room e ∙ ap (fitting room) p,
    priced-fails reads orders n e p,
  );
  too_short = λ reads orders d room e p h. batch_executes reads orders room e ∙ ap (fitting room) p ∙ too_short room d h;
  accepted = λ reads orders d room e p h. batch_executes reads orders room e ∙ ap (fitting room) p ∙ fits room d h;
  lists_at = λ o found e. effect_as o found (kind_lists (order_kind o) e) ∙ put_fits (order_offer o) (order_amount o) (omega arith);
  withdraws_it = λ o found e. effect_as o found (kind_withdraws (order_kind o) e);
  raise_in_range = λ o w e p h. raise_low o w p e h;
  raise_too_high = λ o w e p h. raise_high o w p e h;
  cut_in_range = λ o w e p h. cut_low o w p e h;
  cut_too_deep = λ o w e p h. cut_deep o w p e h;
  keeps_sixteenths = λ o w l h p. keeps_share o w p l h;
  without_a_price = without_a_price;
  nearest = nearest;
  half_upward = half_upward;
  amount_if_more = amount_if_more;
  amount_not_more = amount_not_more;
  output_rises = theorems.output_Changes;
  output_named = theorems.output_named;
  output_on_map = theorems.output_on_Map;
  equation_5 = theorems.equation_5;
  equation_6 = theorems.equation_6;
}
