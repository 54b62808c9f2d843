-- An answer that is a count or a ground, told from the check.
-- Assumes nothing.
use mathlib.Core.Path.{◌≡◌, refl}
use Prim.Native.Nat.{ℕ}
use native.Mathlib.Omega.{arith}
use Rattle.answers.specs.Check.{Answered}
use Rattle.answers.specs.declared.answer.Answer.TheVariants.{Count}
use Rattle.answers.specs.Check.{Check}
use Rattle.std.proofs.Common.{Ok, Err}
use Rattle.answers.specs.declared.ground.Ground.{Ground}
use Rattle.answers.specs.Answers.{answered}

-- a check that found a ground, and the answer that names it
pub record TurnedAway (check : Check) (answer : Answered) : Type 0 where
  pub ground : Ground
  pub found : check ≡ Err ground
  pub told : answer ≡ Err ground

pub refused_of : {answer : Answered} (check : Check) (n : ℕ) → answer ≡ answered check (Ok (Count n))
    → ((x : ℕ) → answer ≡ Ok (Count x) → ⊥)
    → TurnedAway check answer
refused_of (Ok tt) n e h = absurd (h n e)
refused_of (Err g) n e h = record { ground = g; found = refl; told = e }

pub counted_of : {k : ℕ} (check : Check) (n : ℕ) → Ok (Count k) ≡ answered check (Ok (Count n)) → (check ≡ (Ok tt)) × (k ≡ n)
counted_of (Ok tt) n e = (refl, cc)
counted_of (Err g) n e = absurd (let z : ◌≡◌ {A = ℕ} 0 1 = cc in omega arith)
