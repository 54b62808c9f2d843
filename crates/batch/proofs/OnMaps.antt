-- The orders of a batch on a read set and on a whole map: in each iteration both see the same price.
-- Assumes nothing.
use mathlib.Core.Path.{◌≡◌, refl, sym, ◌∙◌, ap}
use mathlib.Core.Bool.{true}
use mathlib.Core.List.{List, [], ◌∷◌}
use Prim.Native.Nat.{ℕ, ◌^◌, ◌<◌}
use native.Mathlib.Omega.{arith}
use Rattle.entry.specs.Word.{none_of}
use Rattle.changes.specs.Found.{Found}
use Rattle.std.proofs.Common.{Some, None}
use Rattle.changes.specs.Calculus.{find, compose, apply}
use Rattle.changes.specs.Lists.{Changes, Map}
use Rattle.changes.specs.ReadSets.{found_or, over}
use Rattle.changes.proofs.Laws.{apply_twice, read_changed}
use Rattle.changes.proofs.ReadWords.{find_read}
use Rattle.changes.proofs.Single.{from_one, Changes-more}
use Rattle.orders.specs.Effect.{Effect}
use Rattle.std.proofs.Common.{Ok, Err}
use Rattle.orders.specs.Orders.{order_kind, order_amount, order_offer, Kind, lists, withdraws, raises, cuts, keeps, unknown, kind_named}
use Rattle.execution.specs.Tests.{list_all, is_read, is_found}
use Rattle.orders.specs.Effects.{with_price, effect_by, effect}
use Rattle.execution.specs.Executing.{Executed, done, next, execute}
use Rattle.batch.specs.OnMaps.{difference, execute_on_map, on_done, Agrees}
use Rattle.execution.proofs.AllOrders.{all_first, all_rest}
use Rattle.orders.proofs.OneOrder.{no_price, effect-Names}
use Rattle.execution.proofs.Iterations.{seen, execute_none, execute_order}

-- An order that finds a word that shows no price does what it does where it finds nothing.
module _ (k : ℕ) (small : k < 2 ^ 31) where
  none_shown : (f : ℕ → Effect) → with_price (Some (none_of k)) f ≡ with_price None f
  unfolding with_price
  none_shown f = no_price (none_of k) f (λ e. omega arith)

  none_by : (kind : Kind) (n amount : ℕ) → effect_by kind n amount k (Some (none_of k)) ≡ effect_by kind n amount k None
  none_by lists n amount = refl
  none_by withdraws n amount = refl
  none_by raises n amount = none_shown _
  none_by cuts n amount = none_shown _
  none_by keeps n amount = none_shown _
  none_by unknown n amount = refl

pub effect_shown : (o : ℕ) (found : Found) → effect o (Some (found_or found (none_of (order_offer o)))) ≡ effect o found
unfolding effect
effect_shown o (Some w) = refl
effect_shown o None = none_by (order_offer o) (omega arith) (kind_named (order_kind o)) (order_kind o) (order_amount o)

-- The changes so far with an order's word.
pub joined : (o : ℕ) (found : Found) (d : List ℕ) (w : ℕ) → Changes d → effect o found ≡ Ok w → Changes (compose d (w ∷ []))
joined o found d w h e = Changes-more d w h (effect-Names o found w e).1

-- Two executions go on alike where they do after each word that the order can give.
alike : (e : Effect) (f g : ℕ → Executed) → ((w : ℕ) → e ≡ Ok w → f w ≡ g w) → next e f ≡ next e g
alike (Ok w) f g h = h w refl
alike (Err ground) f g h = refl

-- what an order on a map sees after changes
abbrev pub sees : List ℕ → List ℕ → ℕ → Found
sees m d offer = find offer (apply m d)

pub difference_is : (m orders : List ℕ) → difference m orders ≡ execute (sees m) [] orders
unfolding difference
difference_is m orders = refl

-- The read set shows what the map has, after the same changes.
module _ (m reads : List ℕ) (map : Map m) (agrees : Agrees m reads) where
  shown_alike : (d : List ℕ) → Changes d → (o : ℕ) → is_read reads o ≡ true → seen reads d (order_offer o)
      ≡ Some (found_or (sees m d (order_offer o)) (none_of (order_offer o)))
  unfolding is_read
  shown_alike d h o r = go (find (order_offer o) reads) refl r
    where
      go : (found : Found) → find (order_offer o) reads ≡ found → is_found found ≡ true → seen reads d (order_offer o)
          ≡ Some (found_or (sees m d (order_offer o)) (none_of (order_offer o)))
      go (Some v) e t =
          ap (λ (l : List ℕ). find (order_offer o) (over l d)) (sym agrees)
          ∙ ap (find (order_offer o)) (read_changed m d map h reads)
          ∙ find_read (order_offer o) (apply m d) reads v e
      go None e t = absurd (let z : ◌≡◌ {A = ℕ} 0 1 = cc in omega arith)

  pub restricted : (d os : List ℕ) → Changes d → list_all (is_read reads) os ≡ true → execute (seen reads) d os ≡ execute (sees m) d os
  restricted d [] h r = execute_none (seen reads) d ∙ sym (execute_none (sees m) d)
  restricted d (o ∷ os) h r =
      let found = sees m d (order_offer o) in
      execute_order (seen reads) d o os _ (shown_alike d h o (all_first (is_read reads) o os r))
      ∙ ap (λ (e : Effect). next e (λ w. execute (seen reads) (compose d (w ∷ [])) os)) (effect_shown o found)
      ∙ alike (effect o found) _ _ (λ w e. restricted (compose d (w ∷ [])) os (joined o found d w h e) (all_rest (is_read reads) o os r))
      ∙ sym (execute_order (sees m) d o os found refl)

-- Executing the orders on a map is applying the changes that they come to.
pub map_none : (m : List ℕ) → execute_on_map m [] ≡ done m
unfolding execute_on_map
map_none m = refl

pub map_order : (m : List ℕ) (o : ℕ) (os : List ℕ) → execute_on_map m (o ∷ os)
    ≡ next (effect o (find (order_offer o) m)) (λ w. execute_on_map (apply m (w ∷ [])) os)
unfolding execute_on_map
map_order m o os = refl

on_next : (f : List ℕ → List ℕ) (e : Effect) (g : ℕ → Executed) → on_done f (next e g) ≡ next e (λ w. on_done f (g w))
on_next f (Ok w) g = refl
on_next f (Err ground) g = refl

pub applied : (m : List ℕ) → Map m → (d os : List ℕ) → Changes d → execute_on_map (apply m d) os ≡ on_done (apply m) (execute (sees m) d os)
applied m map d [] h = map_none (apply m d) ∙ ap (on_done (apply m)) (sym (execute_none (sees m) d))
applied m map d (o ∷ os) h =
    let found = sees m d (order_offer o) in
    map_order (apply m d) o os
    ∙ alike (effect o found) _ _ (λ w e.
    ap (λ (l : List ℕ). execute_on_map l os) (apply_twice m d (w ∷ []) map.rises h.rises (from_one w))
    ∙ applied m map (compose d (w ∷ [])) os (joined o found d w h e))
    ∙ sym (ap (on_done (apply m)) (execute_order (sees m) d o os found refl) ∙ on_next (apply m) (effect o found) _)
