-- Orders executed in turn: what the last of them sees, what a failing one leaves, and tests over all of them.
-- Assumes nothing.
use mathlib.Core.Path.{◌≡◌, refl, ap}
use mathlib.Core.Bool.{Bool, true, false, ◌&&◌}
use mathlib.Core.List.{List, [], ◌∷◌, ◌++◌}
use Prim.Native.Nat.{ℕ}
use native.Mathlib.Omega.{arith}
use Rattle.changes.specs.Found.{Found}
use Rattle.changes.specs.Calculus.{find, compose}
use Rattle.changes.specs.ReadSets.{over}
use Rattle.orders.specs.Effect.{Effect}
use Rattle.std.proofs.Common.{Ok, Err}
use Rattle.orders.specs.Orders.{order_offer}
use Rattle.orders.specs.Effects.{effect}
use Rattle.execution.specs.Executing.{Executed, done, fails, next, execute, priced}
use Rattle.execution.specs.Tests.{list_all}

and_false : (a b : Bool) → b ≡ false → a && b ≡ false
and_false true b e = e
and_false false b e = refl

-- a test that one order fails does not hold of all
pub one_fails : (test : ℕ → Bool) (earlier later : List ℕ) (o : ℕ) → test o ≡ false → list_all test (earlier ++ o ∷ later) ≡ false
unfolding list_all
one_fails test [] later o e = ap (λ (b : Bool). b && list_all test later) e
one_fails test (x ∷ earlier) later o e = and_false (test x) (list_all test (earlier ++ o ∷ later)) (one_fails test earlier later o e)

module _ (see : List ℕ → ℕ → Found) where
  -- one order and then the rest: what comes of more orders where the rest comes to its end
  last_of : (f : Effect) (rest more : ℕ → Executed) (meant : Executed) (d : List ℕ)
      → ((w : ℕ) → rest w ≡ done d → more w ≡ meant) → next f rest ≡ done d → next f more ≡ meant
  last_of (Ok w) rest more meant d h e = h w e
  last_of (Err ground) rest more meant d h e = absurd (let z : ◌≡◌ {A = ℕ} 0 1 = cc in omega arith)

  execute_last : (before orders d : List ℕ) (o : ℕ) → execute see before orders ≡ done d
      → execute see before (orders ++ o ∷ []) ≡ next (effect o (see d (order_offer o))) (λ w. done (compose d (w ∷ [])))
  unfolding execute
  execute_last before [] d o e =
      ap (λ (now : List ℕ). next (effect o (see now (order_offer o))) (λ w. done (compose now (w ∷ [])))) (let z : before ≡ d = cc in z)
  execute_last before (x ∷ orders) d o e =
      last_of (effect x (see before (order_offer x))) _ _ _ d
      (λ w. execute_last (compose before (w ∷ [])) orders d o) e

  -- and where an order fails
  stops_of : (f : Effect) (rest more : ℕ → Executed) (n : ℕ) → ((w : ℕ) → rest w ≡ fails n → more w ≡ fails n) → next f rest ≡ fails n
      → next f more ≡ fails n
  stops_of (Ok w) rest more n h e = h w e
  stops_of (Err ground) rest more n h e = e

  execute_stops : (before orders later : List ℕ) (n : ℕ) → execute see before orders ≡ fails n
      → execute see before (orders ++ later) ≡ fails n
  unfolding execute
  execute_stops before [] later n e = absurd (let z : ◌≡◌ {A = ℕ} 0 1 = cc in omega arith)
  execute_stops before (x ∷ orders) later n e =
      stops_of (effect x (see before (order_offer x))) _ _ n (λ w. execute_stops (compose before (w ∷ [])) orders later n) e

module _ (reads orders : List ℕ) where
  pub last_order : (d : List ℕ) (o : ℕ) → priced reads orders ≡ done d
      → priced reads (orders ++ o ∷ []) ≡ next (effect o (find (order_offer o) (over reads d))) (λ w. done (compose d (w ∷ [])))
  unfolding priced
  last_order d o e = execute_last (λ d offer. find offer (over reads d)) [] orders d o e

  pub first_fails : (later : List ℕ) (n : ℕ) → priced reads orders ≡ fails n → priced reads (orders ++ later) ≡ fails n
  unfolding priced
  first_fails later n e = execute_stops (λ d offer. find offer (over reads d)) [] orders later n e

pub no_orders : (reads : List ℕ) → priced reads [] ≡ done []
unfolding priced execute
no_orders reads = refl
