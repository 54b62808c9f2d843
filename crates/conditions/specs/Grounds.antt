-- The grounds that concern each call, by number and in order (document 01, "Grounds for turning a call away"; document 02: "These and
-- all later numbers join those of document 01."). A call that has two tests for one ground, one after the other, has its number here
-- once.
-- Assumes nothing.
use Rattle.std.specs.Prelude.{Bool, true, false, cond, List, [], ◌∷◌, ℕ, eqb}
use Rattle.answers.specs.declared.call.Call.{Call}
use Rattle.answers.specs.declared.call.Call.TheVariants.{Reset, Step, Read, Ask}
use Rattle.answers.specs.declared.call.Query.{Query}
use Rattle.answers.specs.declared.call.Query.TheVariants.{LookUp, Write, WriteState}
use Rattle.answers.specs.declared.call.Read.{Read as ReadCall}
use Rattle.answers.specs.declared.call.Read.TheVariants.{Issue, Forward, Release}
use Rattle.answers.specs.declared.call.Reset.{Reset as ResetCall}
use Rattle.answers.specs.declared.call.Reset.TheVariants.{Clear, Load, Restart}
use Rattle.answers.specs.declared.call.Step.{Step as StepCall}
use Rattle.answers.specs.declared.call.Step.TheVariants.{Commit, RollBack, Flush}
use Rattle.answers.specs.First.{Test, met}
use Rattle.answers.specs.Numbers.{number_of}

-- the highest number of a ground
abbrev pub highest : ℕ
highest = 20

abbrev pub of_reset : ResetCall → List ℕ
of_reset (Clear depth) = 1 ∷ 20 ∷ []
of_reset (Load depth format) = 1 ∷ 20 ∷ 15 ∷ 16 ∷ []
-- the image that it writes and loads is the checkpoint's, of a map that the table holds: 11, 15, 16 and 20 cannot arise
of_reset Restart = 1 ∷ 2 ∷ 17 ∷ []

abbrev pub of_step : StepCall → List ℕ
of_step Commit = 1 ∷ 2 ∷ 6 ∷ 12 ∷ 13 ∷ 14 ∷ []
of_step (RollBack state) = 1 ∷ 2 ∷ 11 ∷ []
of_step (Flush state) = 1 ∷ 2 ∷ 11 ∷ 20 ∷ 16 ∷ []

abbrev pub of_read : ReadCall → List ℕ
of_read (Issue reader) = 1 ∷ 2 ∷ 3 ∷ 19 ∷ 4 ∷ 6 ∷ 18 ∷ []
of_read (Forward reader state) = 1 ∷ 2 ∷ 3 ∷ 19 ∷ 5 ∷ 6 ∷ 18 ∷ 11 ∷ []
of_read (Release reader) = 1 ∷ 2 ∷ 3 ∷ 19 ∷ 5 ∷ []

abbrev pub of_query : Query → List ℕ
of_query (LookUp asked) = 1 ∷ 2 ∷ 6 ∷ 11 ∷ []
-- no state is named: 11 does not concern it
of_query (Write format) = 1 ∷ 2 ∷ 17 ∷ []
of_query (WriteState format state) = 1 ∷ 2 ∷ 11 ∷ 17 ∷ []

abbrev pub grounds_of : Call → List ℕ
grounds_of (Reset call) = of_reset call
grounds_of (Step call) = of_step call
grounds_of (Read call) = of_read call
grounds_of (Ask query) = of_query query

-- before any order of a batch is executed; then 9 or 10, of the first order that fails, and where none does 17 (Batches.antt)
abbrev pub of_batch : List ℕ
of_batch = 6 ∷ 7 ∷ 8 ∷ []

-- the numbers of tests, in their order
unfoldable pub numbers : List Test → List ℕ
numbers [] = []
numbers (met t reason ∷ tests) = number_of reason ∷ numbers tests

-- equal numbers side by side, once
abbrev pub joined : ℕ → List ℕ → List ℕ
joined n [] = n ∷ []
joined n (m ∷ rest) = cond (eqb n m) (m ∷ rest) (n ∷ m ∷ rest)

unfoldable pub once : List ℕ → List ℕ
once [] = []
once (n ∷ ns) = joined n (once ns)

-- the number of the first ground that is met, and 0 where none is
unfoldable pub first_number : List Test → ℕ
first_number [] = 0
first_number (met true reason ∷ tests) = number_of reason
first_number (met false reason ∷ tests) = first_number tests

-- whether no ground is met
unfoldable pub none_met : List Test → Bool
none_met [] = true
none_met (met true reason ∷ tests) = false
none_met (met false reason ∷ tests) = none_met tests
