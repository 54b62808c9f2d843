-- The positions of the orders in a read set, found one after another.
-- Assumes nothing.
use mathlib.Core.Path.{◌≡◌, refl, sym, ◌∙◌, ap}
use mathlib.Core.Bool.{true, false}
use mathlib.Core.List.{List}
use Prim.Native.Nat.{ℕ, ◌+◌, ◌≤◌, ◌<◌}
use native.Mathlib.Decide.{ℕ_discrete}
use native.Mathlib.Omega.{arith}
use lib.ListN.{length, get_or, set, length-set}
use lib.Seq.{get_or-set_same, get_or-set_other}
use Rattle.entry.specs.Word.{offer_of}
use Rattle.changes.specs.Found.{Found}
use Rattle.std.proofs.Common.{None}
use Rattle.changes.specs.Calculus.{find}
use Rattle.changes.specs.Lists.{From}
use Rattle.changes.proofs.Find.{found_at}
use Rattle.orders.specs.Orders.{order_offer}
use Rattle.execution.specs.Tests.{list_all, is_found, is_read}
use Rattle.execution.specs.Working.{At, Located}
use Rattle.std.proofs.lemmas.List.Recursion.{and_fails_at, and_from_places}
use Rattle.execution.proofs.AllOrders.{all_none, all_one}

-- whether an order's offer is in a read set, from what was found there
read_as : (reads : List ℕ) (o k : ℕ) → k ≡ order_offer o → {found : Found} → find k reads ≡ found → is_read reads o ≡ is_found found
unfolding is_read
read_as reads o k e i = ap (λ (n : ℕ). is_found (find n reads)) (sym e) ∙ ap is_found i

-- noting the position of one order more
Located-next : (reads orders positions : List ℕ) (k : ℕ) → Located reads orders positions k → k < length positions
    → (position : ℕ) → At (order_offer (get_or orders k 0)) reads position → Located reads orders (set positions k position) (k + 1)
Located-next reads orders positions k p b position a i h = go (ℕ_discrete i k)
  where
    go : Dec (i ≡ k) → At (order_offer (get_or orders i 0)) reads (get_or (set positions k position) i 0)
    go (yes e) = rw (e, get_or-set_same positions k position 0 b) a
    go (no n) = rw (get_or-set_other positions k i position 0 n) (p i (omega (arith, n)))

-- a read set that lacks an offer says nothing of positions
pub not_found : {P : Type 0} → false ≡ true → P
not_found e = absurd (let z : ◌≡◌ {A = ℕ} 0 1 = cc in omega arith)

-- an order that has its offer at a position of a read set is in it
At-read : (reads : List ℕ) → From 0 reads → (o position : ℕ) → At (order_offer o) reads position → is_read reads o ≡ true
At-read reads rises o position a = read_as reads o (order_offer o) refl (found_at reads rises position a.inside (order_offer o) a.named)

-- an order whose offer is not found
pub finding_stops : (reads orders : List ℕ) (k offer : ℕ) → k < length orders → offer ≡ order_offer (get_or orders k 0)
    → find offer reads ≡ None → false ≡ list_all (is_read reads) orders
finding_stops reads orders k offer b o e =
    sym (and_fails_at (list_all (is_read reads)) (is_read reads) (all_none (is_read reads)) (all_one (is_read reads)) orders k 0 b
    (read_as reads (get_or orders k 0) offer o e))

-- k orders have been found
pub record Finding (reads orders positions positions₀ : List ℕ) (k : ℕ) : Type 0 where
  pub same : length positions ≡ length positions₀
  pub so_far : Located reads orders positions k

module _ {reads orders positions positions₀ : List ℕ} {k : ℕ} (f : Finding reads orders positions positions₀ k) where
  pub finding_end : From 0 reads → length orders ≤ k
      → (true ≡ list_all (is_read reads) orders) × Located reads orders positions (length orders)
  finding_end rises h = (
    sym (and_from_places (list_all (is_read reads)) (is_read reads) (all_none (is_read reads)) (all_one (is_read reads)) orders 0
        (λ i b. At-read reads rises (get_or orders i 0) (get_or positions i 0) (f.so_far i (omega arith)))),
    λ i b. f.so_far i (omega arith),
  )

  pub Finding-goes : {offer : ℕ} → k < length orders → offer ≡ order_offer (get_or orders k 0) → length orders ≤ length positions₀
      → (position : ℕ) → position < length reads → offer_of (get_or reads position 0) ≡ offer
      → Finding reads orders (set positions k position) positions₀ (k + 1)
  Finding-goes b o room position inside e =
      record {
        same = length-set positions k position ∙ f.same;
        so_far =
            Located-next reads orders positions k f.so_far (omega (arith, f.same)) position
            (record { inside = inside; named = e ∙ o });
      }
