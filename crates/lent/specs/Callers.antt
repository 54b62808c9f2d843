-- Who calls (document 02, Q-1: "desk or foyer"), by the number that a C program gives.
-- Assumes nothing.
use Rattle.std.specs.Prelude.{cond, ℕ, eqb}
use Rattle.answers.specs.declared.call.Caller.{Caller}
use Rattle.answers.specs.declared.call.Caller.TheVariants.{Desk, Foyer}

-- 0 names the desk, 1 the foyer, and so does any other number, since the foyer has fewer places and shorter lists
abbrev pub caller_of : ℕ → Caller
caller_of number = cond (eqb number 0) Desk Foyer
