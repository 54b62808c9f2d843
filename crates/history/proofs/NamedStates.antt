-- A state that a call names: ground 11, a ground tested after it, and the map there.
-- Assumes nothing.
use mathlib.Core.Path.{◌≡◌, refl, ap, ◌∙◌}
use mathlib.Core.Bool.{Bool, true, false}
use mathlib.Core.List.{List, [], ◌∷◌, ◌++◌}
use Prim.Native.Nat.{ℕ, ◌≤◌}
use native.Mathlib.Omega.{arith}
use borrow.Author.Tests.{ltb-false}
use Rattle.layout.specs.States.{map_here}
use Rattle.views.specs.View.{View, map_at as view_map_at}
use Rattle.views.proofs.States.{map_is}
use Rattle.views.proofs.Views.{encoded_Sound}
use Rattle.snapshot.specs.Fresh.{fresh_head}
use Rattle.history.specs.Plain.{Test, met, accept, first_of, Plain, tip_of, map_at, state_tests}
use Rattle.history.proofs.Stored.{store_of, accepted_not, view_back, checkpoint_is, tip_is}
use Rattle.history.proofs.Views.{view_of, Fit, view_map}

-- the last test counts only where those before it are not met
pub only_last : (before : List Test) (c d : Bool) (n : ℕ) → (first_of before ≡ accept → c ≡ d)
    → first_of (before ++ (met c n ∷ [])) ≡ first_of (before ++ (met d n ∷ []))
unfolding first_of
only_last [] c d n h = ap (λ (t : Bool). first_of (met t n ∷ [])) (h refl)
only_last (met true m ∷ before) c d n h = refl
only_last (met false m ∷ before) c d n h = only_last before c d n h

-- a state that passed ground 11
pub within : (p : Plain) (state : ℕ) (rest : List Test) → first_of (state_tests p state ++ rest) ≡ accept
    → (p.checkpoint ≤ state) × (state ≤ tip_of p.line)
within p state rest e =
    let a = accepted_not _ _ _ e in
    let b = accepted_not _ _ _ a.1 in
    (ltb-false state p.checkpoint a.0, ltb-false (tip_of p.line) state b.0)

-- the map in memory is the plain list's
pub map_same : (p : Plain) (f : Fit p) (state : ℕ) → p.checkpoint ≤ state → state ≤ tip_of p.line
    → map_here (store_of p).table (store_of p).journal (store_of p).head state ≡ map_at p.line state
map_same p f state low high =
    map_is (store_of p).table (store_of p).journal (store_of p).head (encoded_Sound (fresh_head 0 0 0) (view_of p) f.good) state
    (omega (arith, checkpoint_is p f)) (omega (arith, tip_is p f))
    ∙ ap (λ (v : View). view_map_at v state) (view_back p f)
    ∙ view_map p f state low high
