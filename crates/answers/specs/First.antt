-- "Checked in this order, those that concern the call; the answer is the number alone": the first ground that is met.
-- Assumes nothing.
use Rattle.std.specs.Prelude.{Bool, true, false, List, [], ◌∷◌}
use Rattle.answers.specs.declared.ground.Ground.{Ground}
use Rattle.answers.specs.Check.{Check}
use Rattle.std.specs.Prelude.{Ok, Err}

-- a ground with the test that says whether it is met
pub data Test : Type 0 where
  met : Bool → Ground → Test

-- "a call that meets no condition is accepted"
unfoldable pub first : List Test → Check
first [] = (Ok tt)
first (met true r ∷ gs) = Err r
first (met false r ∷ gs) = first gs

-- one of two, by whether the call is accepted
abbrev pub if_passed {ℓ} : {A : Type ℓ} → Check → A → A → A
if_passed (Ok tt) new old = new
if_passed (Err r) new old = old
