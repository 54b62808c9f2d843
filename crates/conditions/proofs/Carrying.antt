-- What a run leaves is what the definitions make of its calls, one after another.
-- Assumes nothing.
use mathlib.Core.Path.{◌≡◌, refl, ap, ◌∙◌}
use mathlib.Core.List.{List, [], ◌∷◌}
use Rattle.unit.specs.Carried.{Carried, Asked, next, after}
use Rattle.conditions.specs.Runs.{Turn, asked_in, Run, end_of}
use Rattle.conditions.specs.Serving.{Seen, CallOfServe, handed}

-- a run on memory that stands for what is carried
module _ {M S : Type 0} (Does : M → Asked → S → Type 0) (left : S → M) (StandsFor : M → Carried → Type 0)
    (steps : (m : M) (k : Carried) (a : Asked) (s : S) → StandsFor m k → Does m a s → StandsFor (left s) (next k a)) where
  pub carries : (turns : List (Turn Asked S)) (m : M) (k : Carried) → StandsFor m k → Run Does left m turns
      → StandsFor (end_of Does left m turns) (after k (asked_in turns))
  unfolding Run end_of after
  carries [] m k w run = w
  carries (t ∷ turns) m k w run =
      carries turns (left t.seen) (next k t.asked) (steps m k t.asked t.seen w run.0) run.1

-- what a call of `serve` hands on
pub handed_is : (k : Carried) (a : Asked) (s : Seen) → CallOfServe k a s → handed s ≡ next k a
unfolding next
handed_is k a s serves i = record { tally = serves.1 i; table = serves.2 i; journal = serves.3 i; head = (serves.0.0 i).head }

-- and a run of it
pub run_is : (turns : List (Turn Asked Seen)) (k : Carried) → Run CallOfServe handed k turns → end_of CallOfServe handed k turns
    ≡ after k (asked_in turns)
unfolding Run end_of after
run_is [] k run = refl
run_is (t ∷ turns) k run =
    run_is turns (handed t.seen) run.1
    ∙ ap (λ (x : Carried). after x (asked_in turns)) (handed_is k t.asked t.seen run.0)
