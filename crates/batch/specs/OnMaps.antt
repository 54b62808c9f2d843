-- Orders executed on a whole map (document 01, "Batches"; equations 5 and 6 of section 7.2 of document 000).
-- Assumes nothing.
use Rattle.std.specs.Prelude.{◌≡◌, Bool, false, ◌||◌, List, [], ◌∷◌, ℕ, eqb}
use Rattle.changes.specs.Calculus.{find, apply}
use Rattle.changes.specs.ReadSets.{read_of}
use Rattle.orders.specs.Orders.{order_offer}
use Rattle.orders.specs.Effects.{effect}
use Rattle.execution.specs.Executing.{Executed, done, fails, next, execute}

-- the changes of the orders, executed on a whole map: the transaction difference of equation 5
unfoldable pub difference : List ℕ → List ℕ → Executed
difference m orders = execute (λ d offer. find offer (apply m d)) [] orders

-- the map that the orders make of a whole map, by applying each order's word in turn: the transaction of equation 5
unfoldable pub execute_on_map : List ℕ → List ℕ → Executed
execute_on_map m [] = done m
execute_on_map m (o ∷ os) = next (effect o (find (order_offer o) m)) (λ w. execute_on_map (apply m (w ∷ [])) os)

-- what is made of the words that an execution comes to
abbrev pub on_done : (List ℕ → List ℕ) → Executed → Executed
on_done f (done d) = done (f d)
on_done f (fails n) = fails n

-- "any map that agrees with the read set on its offers": each word of the read set is the one that shows the map at its offer
abbrev pub Agrees : List ℕ → List ℕ → Type 0
Agrees m reads = read_of m reads ≡ reads

-- whether an offer is named by an order
unfoldable pub is_named : ℕ → List ℕ → Bool
is_named offer [] = false
is_named offer (o ∷ os) = eqb (order_offer o) offer || is_named offer os
