-- The tests of a batch's orders (document 01, grounds 7 and 8), over all of them.
-- Assumes nothing.
use Rattle.std.specs.Prelude.{Bool, true, false, ◌&&◌, List, [], ◌∷◌, ℕ}
use Rattle.changes.specs.Found.{Found}
use Rattle.std.specs.Prelude.{Some, None}
use Rattle.changes.specs.Calculus.{find}
use Rattle.orders.specs.Orders.{order_offer}

-- Ground 8: "Some order's offer isn't in the read set."
abbrev pub is_found : Found → Bool
is_found (Some w) = true
is_found None = false

unfoldable pub is_read : List ℕ → ℕ → Bool
is_read reads o = is_found (find (order_offer o) reads)

-- a test holds of every order
unfoldable pub list_all : (ℕ → Bool) → List ℕ → Bool
list_all test [] = true
list_all test (o ∷ os) = test o && list_all test os
