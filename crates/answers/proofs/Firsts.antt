-- The first ground that is met, test by test, and what follows for an answer.
-- Assumes nothing.
use mathlib.Core.Path.{◌≡◌, refl, sym, ap, ◌∙◌}
use mathlib.Core.Bool.{Bool, true, false}
use mathlib.Core.List.{List, [], ◌∷◌, ◌++◌}
use Prim.Native.Nat.{ℕ}
use native.Mathlib.Omega.{arith}
use Rattle.answers.specs.declared.ground.Ground.{Ground}
use Rattle.answers.specs.Check.{Answered}
use Rattle.answers.specs.Check.{Check}
use Rattle.std.proofs.Common.{Ok, Err}
use Rattle.answers.specs.Answers.{said_by, said_by_check, answered, Gives, Checks}
use Rattle.answers.specs.First.{Test, met, first, if_passed}

pub none_met : first [] ≡ (Ok tt)
unfolding first
none_met = refl

module _ (t : Bool) (r : Ground) (gs : List Test) where
  pub first-met : t ≡ true → first (met t r ∷ gs) ≡ Err r
  unfolding first
  first-met e = rw e

  pub first_not : t ≡ false → first (met t r ∷ gs) ≡ first gs
  unfolding first
  first_not e = rw e

-- an accepted call meets none of its grounds
pub passed_not : (t : Bool) (r : Ground) (gs : List Test) → first (met t r ∷ gs) ≡ (Ok tt) → (t ≡ false) × (first gs ≡ (Ok tt))
unfolding first
passed_not true r gs e = absurd (let z : ◌≡◌ {A = ℕ} 0 1 = cc in omega arith)
passed_not false r gs e = (refl, e)

-- grounds before others: where one of them is met, and where none is
pub first_stops : (gs hs : List Test) {r : Ground} → first gs ≡ Err r → first (gs ++ hs) ≡ Err r
unfolding first
first_stops [] hs e = absurd (let z : ◌≡◌ {A = ℕ} 0 1 = cc in omega arith)
first_stops (met true s ∷ gs) hs e = e
first_stops (met false s ∷ gs) hs e = first_stops gs hs e

pub first_past : (gs hs : List Test) → first gs ≡ (Ok tt) → first (gs ++ hs) ≡ first hs
unfolding first
first_past [] hs e = refl
first_past (met true s ∷ gs) hs e = absurd (let z : ◌≡◌ {A = ℕ} 0 1 = cc in omega arith)
first_past (met false s ∷ gs) hs e = first_past gs hs e

-- the same of a check that was made for the grounds that stand first
pub stops : {c : Check} {r : Ground} (gs hs : List Test) → c ≡ first gs → c ≡ Err r → c ≡ first (gs ++ hs)
stops gs hs e d = d ∙ sym (first_stops gs hs (sym e ∙ d))

pub goes_on : {c : Check} (gs hs : List Test) → c ≡ first gs → c ≡ (Ok tt) → first (gs ++ hs) ≡ first hs
goes_on gs hs e d = first_past gs hs (sym e ∙ d)

-- an accepted call meets none of the grounds of either part
pub passed_parts : (gs hs : List Test) → first (gs ++ hs) ≡ (Ok tt) → (first gs ≡ (Ok tt)) × (first hs ≡ (Ok tt))
unfolding first
passed_parts [] hs e = (refl, e)
passed_parts (met true s ∷ gs) hs e = absurd (let z : ◌≡◌ {A = ℕ} 0 1 = cc in omega arith)
passed_parts (met false s ∷ gs) hs e = passed_parts gs hs e

-- what is left of a value by a call that was turned away, and by one that was accepted
pub if_refused {ℓ} : {A : Type ℓ} {c : Check} {r : Ground} → c ≡ Err r → (new old : A) → old ≡ if_passed c new old
if_refused e new old = rw e

pub if_passed_lem {ℓ} : {A : Type ℓ} {c : Check} {x : A} → c ≡ (Ok tt) → (new old : A) → x ≡ new → x ≡ if_passed c new old
if_passed_lem e new old p = rw e p

pub new_is {ℓ} : {A : Type ℓ} {c : Check} → c ≡ (Ok tt) → (new old : A) → if_passed c new old ≡ new
new_is e new old = rw e

pub old_is {ℓ} : {A : Type ℓ} {c : Check} {r : Ground} → c ≡ Err r → (new old : A) → if_passed c new old ≡ old
old_is e new old = rw e

-- an answer that is the one meant gives it in document 01's terms too
pub gives : {a b : Answered} → a ≡ b → Gives a b
gives e = (e, ap said_by e)

-- and so does a check
pub checks : {a b : Check} → a ≡ b → Checks a b
checks e = (e, ap said_by_check e)

-- the answer of a call that was turned away, and of one that was accepted
pub Gives-refused : {c : Check} {r : Ground} → c ≡ Err r → (answer : Answered) → Gives (Err r) (answered c answer)
Gives-refused e answer = rw e (refl, refl)

pub Gives-passed : {c : Check} {a answer : Answered} → c ≡ (Ok tt) → a ≡ answer → Gives a (answered c answer)
Gives-passed e p = rw e (p, ap said_by p)
