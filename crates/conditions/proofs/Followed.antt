-- A run that starts where a plain list starts is answered as the list answers, whatever function is called.
-- Assumes nothing.
use mathlib.Core.Path.{◌≡◌, refl, sym, ap, ap₂, subst, ◌∙◌}
use mathlib.Core.List.{List, [], ◌∷◌}
use lib.ListN.{replicate}
use Rattle.views.specs.View.{Limits}
use Rattle.unit.specs.Carried.{Asked}
use Rattle.history.specs.Named.{Named, Call, Response, accepted_calls, quotes}
use Rattle.history.specs.Plain.{response_by, left_by, Plain, checked, given, changed, Load, load_of, loaded_plain}
use Rattle.history.specs.Traces.{Asked as AskedIn3, ReadSet, nothing, read_sets_after, plain_responses}
use Rattle.history.proofs.Alike.{plain_alike}
use Rattle.history.proofs.AsEarlier.{as_earlier}
use Rattle.history.proofs.Following.{Fit-after, sets_after}
use Rattle.history.proofs.Outstanding.{Outstanding}
use Rattle.history.proofs.Views.{Fit}
use Rattle.conditions.specs.Runs.{Turn, lent_in, RunFrom, responses_in, calls_in}
use Rattle.conditions.specs.Condition3.{AnswersAsPlain, QuotesAlike, RunsAsEarlier}

-- what the plain list answers and is after a call
abbrev pub answered : Plain → Call → Response
answered p c = response_by (checked p c) (given p c)

abbrev pub after : Plain → Call → Plain
after p c = left_by (checked p c) (changed p c) p

-- a plain list as a load leaves it, with what holds of it
pub record Started (p : Plain) : Type 0 where
  pub fit : Fit p
  pub outstanding : Outstanding p (replicate 8 nothing)

module _ {M S : Type 0} (Does : M → Asked → S → Type 0) (left : S → M) (tells : Named → S → Response)
    (Loads : M → Load → S → Type 0) (lengths : M → Limits) (Follows : M → Plain → Type 0)
    (steps : (m : M) (p : Plain) → Fit p → (sets : List ReadSet) → Outstanding p sets → (a : AskedIn3) (s : S)
    → Follows m p → Does m (lent_in sets a) s
    → (tells a.call.named s ≡ answered p a.call) × Follows (left s) (after p a.call))
    (starts : (m : M) (load : Load) (s : S) → Loads m load s
    → Started (loaded_plain (lengths m) load) × Follows (left s) (loaded_plain (lengths m) load)) where
  follow : (turns : List (Turn AskedIn3 S)) (m : M) (p : Plain) → Fit p → (sets : List ReadSet) → Outstanding p sets → Follows m p
      → RunFrom Does left tells m sets turns → responses_in tells turns ≡ plain_responses p (calls_in turns)
  unfolding RunFrom plain_responses
  follow [] m p f sets o w run = refl
  follow (t ∷ turns) m p f sets o w run =
      let a = t.asked in
      let c = a.call in
      let both = steps m p f sets o a t.seen w run.0 in
      let sets' = read_sets_after sets c.named in
      ap₂ (λ (r : Response) (rs : List Response). r ∷ rs) both.0
      (follow turns (left t.seen) (after p c) (Fit-after p f sets o c (checked p c) refl) (sets' (answered p c))
      (sets_after p f sets o c (checked p c) refl) both.1
      (subst (λ (r : Response). RunFrom Does left tells (left t.seen) (sets' r) turns) both.0 run.1))

  pub answers : AnswersAsPlain Does left tells Loads lengths
  answers m load loaded turns loads run =
      let s = starts m load loaded loads in
      follow turns (left loaded) (loaded_plain (lengths m) load) s.0.fit (replicate 8 nothing) s.0.outstanding s.1 run

  pub alike : QuotesAlike Does left tells Loads lengths
  alike m₁ m₂ depth₁ depth₂ format bytes loaded₁ loaded₂ turns₁ turns₂ l₁ r₁ l₂ r₂ same =
      let e₁ = answers m₁ (load_of depth₁ format bytes) loaded₁ turns₁ l₁ r₁ in
      let e₂ = answers m₂ (load_of depth₂ format bytes) loaded₂ turns₂ l₂ r₂ in
      ap quotes e₁
      ∙ plain_alike (lengths m₁) (lengths m₂) depth₁ depth₂ format bytes (calls_in turns₁) (calls_in turns₂)
      (ap (accepted_calls (calls_in turns₁)) (sym e₁) ∙ same ∙ ap (accepted_calls (calls_in turns₂)) e₂)
      ∙ ap quotes (sym e₂)

  pub earlier : RunsAsEarlier Does left tells Loads lengths
  earlier m format bytes loaded turns loads run =
      answers m (load_of 0 format bytes) loaded turns loads run
      ∙ as_earlier (loaded_plain (lengths m) (load_of 0 format bytes)) refl (calls_in turns)
