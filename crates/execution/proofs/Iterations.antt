-- An iteration of the execution: the read set with the words made in place of its own shows what the order sees, its word is made at the
-- offer's position, and the words made are the changes so far.
-- Assumes nothing.
use mathlib.Core.Path.{◌≡◌, refl, sym, ◌∙◌, ap}
use mathlib.Core.List.{List, [], ◌∷◌}
use Prim.Native.Nat.{ℕ, ◌+◌, ◌≤◌, ◌<◌}
use native.Mathlib.Omega.{arith}
use lib.ListN.{length, get_or, drop, set, length-set, length-replicate, drop_of_length-le, get_or-map}
use Rattle.entry.specs.Word.{offer_of}
use Rattle.changes.specs.Found.{Found}
use Rattle.changes.specs.Calculus.{find, compose}
use Rattle.changes.specs.Lists.{From}
use Rattle.changes.specs.ReadSets.{over}
use Rattle.changes.proofs.Find.{found_at}
use Rattle.changes.proofs.ReadWords.{over_at}
use Rattle.words.proofs.Parts as parts
use Rattle.changes.proofs.Laws.{over_offers, over_twice, over_zero}
use Rattle.changes.proofs.Reading.{offers_of, From-by_offers}
use Rattle.changes.proofs.Single.{from_one}
use Rattle.answers.specs.Numbers.{number_of}
use Rattle.answers.specs.declared.ground.Ground.{Ground}
use Rattle.orders.specs.Effect.{Effect}
use Rattle.std.proofs.Common.{Option, Some, None, Ok, Err}
use Rattle.std.specs.Option.{unwrap_or}
use Rattle.orders.specs.Orders.{order_offer}
use Rattle.orders.specs.Effects.{effect}
use Rattle.execution.specs.Executing.{done, fails, next, execute, priced}
use Rattle.execution.specs.Working.{At, made, Ready}
use Rattle.execution.proofs.Made.{shown, shown_at, shown-set, length-shown, none_made, none_shown, made-set}
use Rattle.orders.proofs.OneOrder.{effect-Names}

-- what an order on a read set sees after changes
abbrev pub seen : List ℕ → List ℕ → ℕ → Found
seen reads d offer = find offer (over reads d)

module _ (see : List ℕ → ℕ → Found) (d : List ℕ) where
  pub execute_none : execute see d [] ≡ done d
  unfolding execute
  execute_none = refl

  pub execute_order : (o : ℕ) (os : List ℕ) (found : Found) → see d (order_offer o) ≡ found → execute see d (o ∷ os)
      ≡ next (effect o found) (λ w. execute see (compose d (w ∷ [])) os)
  unfolding execute
  execute_order o os found e = ap (λ (f : Found). next (effect o f) (λ w. execute see (compose d (w ∷ [])) os)) e

pub priced_is : (reads orders : List ℕ) → priced reads orders ≡ execute (seen reads) [] orders
unfolding priced
priced_is reads orders = refl

-- k orders are executed
pub record Iterating (reads orders : List ℕ) (words : List (Option ℕ)) (k : ℕ) : Type 0 where
  pub inside : k ≤ length orders
  pub same : length words ≡ length reads
  pub over_reads : shown reads words ≡ over reads (made words)
  pub left : execute (seen reads) (made words) (drop k orders) ≡ priced reads orders

pub iterating : {reads orders positions : List ℕ} {words : List (Option ℕ)} → Ready reads orders positions words
    → Iterating reads orders words 0
iterating {reads} {orders} {positions} {words} r =
    let none : made words ≡ [] = ap made r.none_made ∙ none_made reads in
    record {
      inside = omega arith;
      same = ap length r.none_made ∙ length-replicate (length reads) None;
      over_reads = ap (shown reads) r.none_made ∙ none_shown reads ∙ sym (ap (over reads) none ∙ over_zero reads);
      left = ap (λ (d : List ℕ). execute (seen reads) d orders) none ∙ sym (priced_is reads orders);
    }

module _ {reads orders : List ℕ} {words : List (Option ℕ)} {k : ℕ} (t : Iterating reads orders words k) where
  pub iterated : length orders ≤ k → done (made words) ≡ priced reads orders
  iterated h =
      sym (execute_none (seen reads) (made words))
      ∙ ap (execute (seen reads) (made words)) (sym (drop_of_length-le orders h))
      ∙ t.left

  module _ (rises : From 0 reads) (b : k < length orders) {p : ℕ} (a : At (order_offer (get_or orders k 0)) reads p) where
    offers : offers_of (shown reads words) ≡ offers_of reads
    offers = ap offers_of t.over_reads ∙ over_offers reads (made words)

    shown_rise : From 0 (shown reads words)
    shown_rise = From-by_offers 0 reads (shown reads words) (sym offers) rises

    shown_offer : offer_of (get_or (shown reads words) p 0) ≡ order_offer (get_or orders k 0)
    shown_offer =
        sym (get_or-map offer_of (shown reads words) p 0)
        ∙ ap (λ (l : List ℕ). get_or l p (offer_of 0)) offers
        ∙ get_or-map offer_of reads p 0
        ∙ a.named

    inside_shown : p < length (shown reads words)
    inside_shown = omega (arith, a.inside, length-shown reads words t.same)

    module _ {w : ℕ} (at : w ≡ unwrap_or (get_or words p None) (get_or reads p 0)) where
      here : get_or (shown reads words) p 0 ≡ w
      here = shown_at reads words t.same p a.inside ∙ sym at

      sees : seen reads (made words) (order_offer (get_or orders k 0)) ≡ Some w
      sees =
          ap (find (order_offer (get_or orders k 0))) (sym t.over_reads)
          ∙ found_at (shown reads words) shown_rise p inside_shown (order_offer (get_or orders k 0)) shown_offer
          ∙ ap Some here

      iteration : next (effect (get_or orders k 0) (Some w))
          (λ v. execute (seen reads) (compose (made words) (v ∷ [])) (drop (k + 1) orders)) ≡ priced reads orders
      iteration =
          sym (execute_order (seen reads) (made words) (get_or orders k 0) (drop (k + 1) orders) (Some w) sees)
          ∙ ap (execute (seen reads) (made words)) (sym (parts.next orders k b))
          ∙ t.left

      -- the order fails
      pub iteration_fails : {ground : Ground} → effect (get_or orders k 0) (Some w) ≡ Err ground
          → fails (number_of ground) ≡ priced reads orders
      iteration_fails e =
          sym (ap (λ (f : Effect). next f
          (λ v. execute (seen reads) (compose (made words) (v ∷ [])) (drop (k + 1) orders))) e) ∙ iteration

      -- its word is made
      module _ {v : ℕ} (e : effect (get_or orders k 0) (Some w) ≡ Ok v) where
        offer_same : offer_of v ≡ offer_of (get_or (shown reads words) p 0)
        offer_same = (effect-Names (get_or orders k 0) (Some w) v e).0 ∙ sym shown_offer

        joined : made (set words p (Some v)) ≡ compose (made words) (v ∷ [])
        joined = made-set 0 reads words shown_rise t.same p a.inside v offer_same

        pub iteration_goes : Iterating reads orders (set words p (Some v)) (k + 1)
        iteration_goes =
            record {
              inside = omega arith;
              same = length-set words p (Some v) ∙ t.same;
              over_reads =
                  shown-set reads words t.same p a.inside v
                  ∙ sym
                  (ap (over reads) joined
                  ∙ sym (over_twice reads (made words) (v ∷ []) (from_one v))
                  ∙ ap (λ (l : List ℕ). over l (v ∷ [])) (sym t.over_reads)
                  ∙ over_at 0 (shown reads words) shown_rise p inside_shown v offer_same);
              left =
                  ap (λ (d : List ℕ). execute (seen reads) d (drop (k + 1) orders)) joined
                  ∙ sym (ap (λ (f : Effect). next f
                  (λ u. execute (seen reads) (compose (made words) (u ∷ [])) (drop (k + 1) orders))) e)
                  ∙ iteration;
            }
