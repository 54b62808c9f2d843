-- What the last of some steps that names an offer is: it names it, none behind it does, and where there is none, no step does.
-- Assumes nothing.
use mathlib.Core.Path.{◌≡◌, refl, sym, ap, subst, ◌∙◌}
use mathlib.Core.List.{List, [], ◌∷◌}
use Prim.Native.Nat.{ℕ, zero, suc, ◌-◌, ◌≤◌, ◌<◌}
use native.Mathlib.Omega.{arith}
use lib.ListN.{length, get_or}
use Rattle.changes.specs.Found.{Found}
use Rattle.std.proofs.Common.{Some, None}
use Rattle.changes.specs.Calculus.{find}
use Rattle.changes.specs.Runs.{run_of}
use Rattle.views.proofs.Laid.{run_count}
use Rattle.last_changes.specs.Last.{Last}
use Rattle.last_changes.specs.Last.{onward, last_in}

-- the last of some steps, found and where: the step that the number names has the word, and no step behind it has the offer
pub record Latest (offer : ℕ) (steps : List (List ℕ)) (w n : ℕ) : Type 0 where
  pub least : 1 ≤ n
  pub most : n ≤ length steps
  pub names : find offer (get_or steps (n - 1) []) ≡ Some w
  pub none_later : (i : ℕ) → n ≤ i → i < length steps → find offer (get_or steps i []) ≡ None

-- no step has the offer
abbrev pub Unnamed : ℕ → List (List ℕ) → Type 0
Unnamed offer steps = (i : ℕ) → i < length steps → find offer (get_or steps i []) ≡ None

-- what is said of the last of some steps
abbrev pub Told : ℕ → List (List ℕ) → Last → Type 0
Told offer steps (Some (w, n)) = Latest offer steps w n
Told offer steps None = Unnamed offer steps

further : (offer : ℕ) (d : List ℕ) (ds : List (List ℕ)) (l : Last) (f : Found) → find offer d ≡ f → Told offer ds l
    → Told offer (d ∷ ds) (onward l f)
further offer d ds (Some (w, zero)) f e h = absurd (omega (arith, h.least))
further offer d ds (Some (w, suc n)) f e h =
    let behind : suc (suc n) - 1 ≡ suc n = omega arith in
    let there : suc n - 1 ≡ n = omega arith in
    record {
      least = omega arith;
      most = omega (arith, h.most);
      names =
          ap (λ (i : ℕ). find offer (get_or (d ∷ ds) i [])) behind
          ∙ ap (λ (i : ℕ). find offer (get_or ds i [])) (sym there)
          ∙ h.names;
      none_later = later;
    }
  where
    later : (i : ℕ) → suc (suc n) ≤ i → i < length (d ∷ ds) → find offer (get_or (d ∷ ds) i []) ≡ None
    later zero a b = absurd (omega arith)
    later (suc i) a b = h.none_later i (omega arith) (omega arith)
further offer d ds None (Some w) e h = record { least = omega arith; most = omega arith; names = e; none_later = later }
  where
    later : (i : ℕ) → 1 ≤ i → i < length (d ∷ ds) → find offer (get_or (d ∷ ds) i []) ≡ None
    later zero a b = absurd (omega arith)
    later (suc i) a b = h i (omega arith)
further offer d ds None None e h = each
  where
    each : (i : ℕ) → i < length (d ∷ ds) → find offer (get_or (d ∷ ds) i []) ≡ None
    each zero b = e
    each (suc i) b = h i (omega arith)

pub last_Told : (offer : ℕ) (steps : List (List ℕ)) → Told offer steps (last_in offer steps)
unfolding last_in
last_Told offer [] = λ i b. absurd (omega arith)
last_Told offer (d ∷ ds) = further offer d ds (last_in offer ds) (find offer d) refl (last_Told offer ds)

-- "the last step naming the offer" names it, and none behind it does,
pub last_names : (offer : ℕ) (steps : List (List ℕ)) (w n : ℕ) → Some (w, n) ≡ last_in offer steps → Latest offer steps w n
last_names offer steps w n e = subst (Told offer steps) (sym e) (last_Told offer steps)

-- and where there is none, no step names it
pub none_names : (offer : ℕ) (steps : List (List ℕ)) → None ≡ last_in offer steps → Unnamed offer steps
none_names offer steps e = subst (Told offer steps) (sym e) (last_Told offer steps)

-- it is one of the steps of a run
pub last_within : (words ends : List ℕ) (offer i k w n : ℕ) → Some (w, n) ≡ last_in offer (run_of words ends i k) → n ≤ k
last_within words ends offer i k w n e = omega (arith, (last_names offer (run_of words ends i k) w n e).most, run_count words ends k i)
