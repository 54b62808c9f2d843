-- The kinds of orders, as the code has them, by their numbers.
-- Assumes nothing.
use Rattle.std.specs.Prelude.{◌≡◌, ℕ, ◌+◌, ◌≤◌, Result, Ok, Err}
use Rattle.answers.specs.declared.ground.Ground.{Ground}
use Rattle.answers.specs.declared.ground.Ground.TheVariants.{BadOrder}
use Rattle.orders.specs.declared.kind.Kind.{Kind}
use Rattle.orders.specs.declared.kind.Kind.TheVariants.{Put, Withdraw, Raise, Cut, Keep}
use Rattle.orders.specs.Orders.{unknown, kind_named}

-- the result is the kind that a number names, or ground 7 where it names none
abbrev pub Decodes : ℕ → Result Kind Ground → Type 0
Decodes number (Ok Put) = number ≡ 0
Decodes number (Ok Withdraw) = number ≡ 1
Decodes number (Ok Raise) = number ≡ 2
Decodes number (Ok Cut) = number ≡ 3
Decodes number (Ok (Keep count)) = (number ≡ 15 + count) × (1 ≤ count) × (count ≤ 16)
Decodes number (Err reason) = (reason ≡ BadOrder) × (kind_named number ≡ unknown)
