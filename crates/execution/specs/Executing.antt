-- Orders executed in turn on a read set (document 01, "Batches").
-- Assumes nothing.
use Rattle.std.specs.Prelude.{List, [], ◌∷◌, ℕ}
use Rattle.changes.specs.Found.{Found}
use Rattle.changes.specs.Calculus.{find, compose}
use Rattle.changes.specs.ReadSets.{over}
use Rattle.answers.specs.Numbers.{number_of}
use Rattle.answers.specs.Check.{Check}
use Rattle.orders.specs.Effect.{Effect}
use Rattle.std.specs.Prelude.{Ok, Err}
use Rattle.orders.specs.Orders.{order_offer}
use Rattle.orders.specs.Effects.{effect}

-- what executing orders comes to: words, or the number of the ground by which the first order that fails does so
pub data Executed : Type 0 where
  done : List ℕ → Executed
  fails : ℕ → Executed

abbrev pub next : Effect → (ℕ → Executed) → Executed
next (Ok w) rest = rest w
next (Err reason) rest = fails (number_of reason)

-- "Orders run in turn, each seeing the earlier ones." An order sees what is at its offer after the changes d of those before
-- it, and its own word joins them, so that d has "one word per offer named, rising, with its final price or removal".
unfoldable pub execute : (List ℕ → ℕ → Found) → List ℕ → List ℕ → Executed
execute see d [] = done d
execute see d (o ∷ os) = next (effect o (see d (order_offer o))) (λ w. execute see (compose d (w ∷ [])) os)

-- the changes of the orders, executed on a read set
unfoldable pub priced : List ℕ → List ℕ → Executed
priced reads orders = execute (λ d offer. find offer (over reads d)) [] orders

-- what comes of a check that passed, or the number of the ground that stops it
abbrev pub after : Check → Executed → Executed
after (Ok tt) executed = executed
after (Err reason) executed = fails (number_of reason)
