-- What the execution of orders comes to, however an order sees its offer: changes with a word for each offer named, and no other.
-- Assumes nothing.
use mathlib.Core.Path.{◌≡◌, refl, sym, ◌∙◌, ap}
use mathlib.Core.Bool.{Bool, false, ◌||◌, or-true, or-false, or_assoc}
use mathlib.Core.List.{List, [], ◌∷◌}
use Prim.Native.Nat.{ℕ, ◌+◌, ◌≤◌}
use native.Mathlib.Decide.{ℕ_discrete}
use native.Mathlib.Omega.{arith}
use borrow.Author.Tests.{eq-eqb, ne_eqb}
use lib.Dec.{eqb}
use lib.ListN.{length}
use Rattle.entry.specs.Word.{offer_of}
use Rattle.changes.specs.Found.{Found}
use Rattle.changes.specs.Calculus.{find, or_else, compose}
use Rattle.changes.specs.Lists.{Changes}
use Rattle.changes.proofs.Find.{find_empty, find_head, find_past}
use Rattle.changes.proofs.Laws.{later_wins, compose-length}
use Rattle.changes.proofs.Single.{from_one}
use Rattle.orders.specs.Effect.{Effect}
use Rattle.std.proofs.Common.{Ok, Err}
use Rattle.orders.specs.Orders.{order_offer}
use Rattle.execution.specs.Tests.{is_found}
use Rattle.orders.specs.Effects.{effect}
use Rattle.execution.specs.Executing.{done, next, execute}
use Rattle.batch.specs.OnMaps.{is_named}
use Rattle.orders.proofs.OneOrder.{effect-Names}
use Rattle.batch.proofs.OnMaps.{joined}
use Rattle.execution.proofs.Iterations.{execute_none, execute_order}

-- orders that bring the changes from d to e
pub record Brings (d os e : List ℕ) : Type 0 where
  pub changes : Changes e
  pub few : length e ≤ length d + length os
  pub named : (k : ℕ) → is_found (find k e) ≡ (is_found (find k d) || is_named k os)

named_none : (k : ℕ) → is_named k [] ≡ false
unfolding is_named
named_none k = refl

named_more : (k o : ℕ) (os : List ℕ) → is_named k (o ∷ os) ≡ (eqb (order_offer o) k || is_named k os)
unfolding is_named
named_more k o os = refl

-- a word that joins the changes adds its offer
adds : (k w : ℕ) (d : List ℕ) → is_found (find k (compose d (w ∷ []))) ≡ (is_found (find k d) || eqb (offer_of w) k)
adds k w d = ap is_found (later_wins k d (w ∷ []) (from_one w)) ∙ go (ℕ_discrete (offer_of w) k)
  where
    go : Dec (offer_of w ≡ k) → is_found (or_else (find k (w ∷ [])) (find k d)) ≡ (is_found (find k d) || eqb (offer_of w) k)
    go (yes e) =
        ap (λ (f : Found). is_found (or_else f (find k d))) (find_head k w [] e)
        ∙ sym (ap (◌||◌ (is_found (find k d))) (eq-eqb (offer_of w) k e) ∙ or-true (is_found (find k d)))
    go (no n) =
        ap (λ (f : Found). is_found (or_else f (find k d))) (find_past k w [] n ∙ find_empty k)
        ∙ sym (ap (◌||◌ (is_found (find k d))) (ne_eqb (offer_of w) k n) ∙ or-false (is_found (find k d)))

pub brings : (see : List ℕ → ℕ → Found) (d os e : List ℕ) → Changes d → execute see d os ≡ done e → Brings d os e
brings see d [] e h r =
    let same : d ≡ e = cc (execute_none see d) in
    rw (← same) (record {
      changes = h;
      few = omega arith;
      named = λ k. sym (ap (◌||◌ (is_found (find k d))) (named_none k) ∙ or-false (is_found (find k d)));
    })
brings see d (o ∷ os) e h r =
    go (effect o (see d (order_offer o))) refl (sym (execute_order see d o os (see d (order_offer o)) refl) ∙ r)
    (λ w. brings see (compose d (w ∷ [])) os e)
  where
    go : (f : Effect) → effect o (see d (order_offer o)) ≡ f → next f (λ w. execute see (compose d (w ∷ [])) os) ≡ done e
        → ((w : ℕ) → Changes (compose d (w ∷ [])) → execute see (compose d (w ∷ [])) os ≡ done e → Brings (compose d (w ∷ [])) os e)
        → Brings d (o ∷ os) e
    go (Ok w) i r' rest =
        let b = rest w (joined o (see d (order_offer o)) d w h i) r' in
        let at = (effect-Names o (see d (order_offer o)) w i).0 in
        record {
          changes = b.changes;
          few = omega (arith, b.few, compose-length d (w ∷ []));
          named = λ k.
              b.named k
              ∙ ap (λ (x : Bool). x || is_named k os) (adds k w d ∙ ap (λ (n : ℕ). is_found (find k d) || eqb n k) at)
              ∙ or_assoc (is_found (find k d)) (eqb (order_offer o) k) (is_named k os)
              ∙ ap (◌||◌ (is_found (find k d))) (sym (named_more k o os));
        }
    go (Err ground) i r' rest = absurd (let z : ◌≡◌ {A = ℕ} 0 1 = cc in omega arith)
