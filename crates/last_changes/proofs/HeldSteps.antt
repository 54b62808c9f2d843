-- The held steps of a sound store can be searched.
-- Assumes nothing.
use mathlib.Core.Path.{◌≡◌}
use mathlib.Core.List.{List}
use Prim.Native.Nat.{ℕ, ◌≤◌}
use native.Mathlib.Omega.{arith}
use lib.ListN.{length}
use Rattle.changes.proofs.ListTest.{list_facts}
use Rattle.changes.proofs.Running.{Marked-fewer}
use Rattle.layout.specs.declared.head.Head.{Head}
use Rattle.layout.specs.States.{held_of, step_index}
use Rattle.views.specs.View.{Shaped}
use Rattle.views.proofs.Laid.{journal_steps}
use Rattle.soundness.specs.Facts.{Sound}
use Rattle.views.proofs.SoundFacts.{marks_inside}
use Rattle.layout.proofs.StepTests.{step_list}
use Rattle.last_changes.specs.Steps.{Rising}

-- the held steps from one state to a later one, up to the tip
pub steps_rise : (table journal : List ℕ) (head : Head) → length head.ends ≡ 64 → Sound table journal head → (from to : ℕ)
    → from ≤ to → to ≤ head.tip
    → Rising journal head.ends (step_index head from) (step_index head to)
steps_rise table journal head e s from to h k =
    let tests = journal_steps journal head.ends (held_of head) s.lists in
    record {
      marked = Marked-fewer (marks_inside table journal head e s) (step_index head to) (omega arith);
      order = omega arith;
      rises = λ i a b. (list_facts _ (step_list journal head.ends i (tests i (omega arith)))).1;
    }

pub steps_Rising : (table journal : List ℕ) (head : Head) → Shaped head → Sound table journal head → (from to : ℕ)
    → from ≤ to → to ≤ head.tip
    → Rising journal head.ends (step_index head from) (step_index head to)
steps_Rising table journal head p = steps_rise table journal head p.ends_64
