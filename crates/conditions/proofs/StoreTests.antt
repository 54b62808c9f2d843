-- Grounds 1 and 2 come first at every call that tests the store.
-- Assumes nothing.
use mathlib.Core.Path.{◌≡◌, ap, ◌∙◌}
use mathlib.Core.Bool.{Bool, true, false, not, cond}
use mathlib.Core.List.{List, ◌∷◌, ◌++◌}
use lib.ListN.{length}
use Rattle.answers.specs.declared.call.Call.{Call}
use Rattle.answers.specs.declared.ground.Ground.{Ground}
use Rattle.answers.specs.First.{Test, met}
use Rattle.answers.specs.Numbers.{number_of}
use Rattle.layout.specs.Clauses.{are_lengths}
use Rattle.soundness.specs.Checks.{length_grounds, store_grounds}
use Rattle.soundness.specs.Sound.{is_sound}
use Rattle.calls.specs.Lent.{Lent}
use Rattle.calls.specs.Meaning.{meaning}
use Rattle.lent.specs.Lent.{tests_store}
use Rattle.conditions.specs.Grounds.{first_number}
use Rattle.conditions.proofs.Refusals.{begins}

module _ (t : Bool) (g : Ground) (ts : List Test) where
  number_met : t ≡ true → first_number (met t g ∷ ts) ≡ number_of g
  unfolding first_number
  number_met e = rw e

  number_not : t ≡ false → first_number (met t g ∷ ts) ≡ first_number ts
  unfolding first_number
  number_not e = rw e

module _ (l : Lent) where
  -- the tests that a call begins with
  abbrev first_tests : Bool → List Test
  first_tests both = cond both (store_grounds l.table l.journal l.head) (length_grounds (length l.table) (length l.journal))

  one : (both : Bool) (rest : List Test) → are_lengths (length l.table) (length l.journal) ≡ false
      → first_number (first_tests both ++ rest) ≡ 1
  one true rest e = number_met _ _ _ (ap not e)
  one false rest e = number_met _ _ _ (ap not e)

  pub by_lengths : (call : Call) → are_lengths (length l.table) (length l.journal) ≡ false → first_number (meaning l call).grounds ≡ 1
  by_lengths call e = let b = begins l call in ap first_number b.is ∙ one (tests_store call) b.rest e

  pub by_soundness : (call : Call) → tests_store call ≡ true → are_lengths (length l.table) (length l.journal) ≡ true
      → is_sound l.table l.journal l.head ≡ false → first_number (meaning l call).grounds ≡ 2
  by_soundness call y f e =
      let b = begins l call in
      ap first_number b.is
      ∙ ap (λ (both : Bool). first_number (first_tests both ++ b.rest)) y
      ∙ number_not _ _ _ (ap not f)
      ∙ number_met _ _ _ (ap not e)
