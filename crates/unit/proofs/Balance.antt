-- The tally and the sums that it stands for, kept by every call.
-- Assumes nothing.
use mathlib.Core.Path.{◌≡◌, refl, sym, ◌∙◌}
use mathlib.Core.Bool.{Bool, true, false, and-eq-true_iff}
use mathlib.Core.List.{List, [], ◌∷◌}
use Prim.Native.Nat.{ℕ, ◌+◌, ◌-◌, ◌≤◌, min}
use native.Mathlib.Omega.{arith}
use Rattle.layout.specs.declared.head.Head.{Head}
use Rattle.calls.specs.Meaning.{performed}
use Rattle.answers.specs.declared.tally.Tally.{Tally}
use Rattle.unit.specs.Carried.{Carried, Asked, Accepted, lent_to, accepts, next, after, sets_to_zero, noted, noted_all, sum_of}
use Rattle.answers.specs.Counts.{largest, resets, counts_of}
use Rattle.unit.proofs.Effects.{Effect, turned, began, moved, effect}

-- the numbers of steps committed, rolled back and flushed, the tally that stands for them, and the head
pub record Balanced (c r f : ℕ) (tally : Tally) (head : Head) : Type 0 where
  pub order : head.checkpoint ≤ head.tip
  pub committed : tally.committed ≡ min c largest
  pub rolled_back : tally.rolled_back ≡ min r largest
  pub flushed : tally.flushed ≡ min f largest
  pub balance : c ≡ r + f + (head.tip - head.checkpoint)

-- a count that stops at its largest value goes on standing for its sum
stops : (sum more count count' : ℕ) → count ≡ min sum largest → count' ≡ min (count + more) largest → count' ≡ min (more + sum) largest
stops sum more count count' e e' = omega (arith, e, e')

balance_moves : (c r f cc rr ff tip checkpoint tip' checkpoint' : ℕ) → checkpoint ≤ tip → checkpoint' ≤ tip'
    → c ≡ r + f + (tip - checkpoint) → cc + (tip - checkpoint) ≡ rr + ff + (tip' - checkpoint')
    → cc + c ≡ rr + r + (ff + f) + (tip' - checkpoint')
balance_moves c r f cc rr ff tip checkpoint tip' checkpoint' h h' e m = omega (arith, e, m)

abbrev pub Kept : List Accepted → Carried → Type 0
Kept calls l =
    Balanced (sum_of (λ (t : Tally). t.committed) calls) (sum_of (λ (t : Tally). t.rolled_back) calls)
    (sum_of (λ (t : Tally). t.flushed) calls) l.tally l.head

-- what a call does to the head that is lent to it
abbrev EffectOf : Carried → Asked → Type 0
EffectOf k a =
    Effect (accepts k a) (resets a.call) (counts_of k.head.checkpoint k.head.tip a.call) k.head
    (performed (lent_to k a) a.call).lent.head

effect_of : (k : Carried) (a : Asked) → EffectOf k a
effect_of k a = effect (lent_to k a) a.call

module _ (calls : List Accepted) (l : Carried) (a : Asked) where
  kept_by : EffectOf l a → Kept calls l → Kept (noted calls l a) (next l a)
  unfolding noted next sum_of
  kept_by (turned n same) k = rw n (rw same k)
  kept_by (began y anew level) k =
      rw y (rw anew (record {
        order = omega (arith, level);
        committed = refl;
        rolled_back = refl;
        flushed = refl;
        balance = omega (arith, level);
      }))
  kept_by (moved y on moves) k =
      let m = moves k.order in
      rw y (rw on (record {
        order = m.order;
        committed = stops _ _ _ _ k.committed refl;
        rolled_back = stops _ _ _ _ k.rolled_back refl;
        flushed = stops _ _ _ _ k.flushed refl;
        balance = balance_moves _ _ _ _ _ _ _ _ _ _ k.order m.order k.balance m.steps;
      }))

pub kept_next : (calls : List Accepted) (l : Carried) (a : Asked) → Kept calls l → Kept (noted calls l a) (next l a)
kept_next calls l a = kept_by calls l a (effect_of l a)

pub Kept-after : (calls : List Accepted) (l : Carried) (asked : List Asked) → Kept calls l → Kept (noted_all calls l asked) (after l asked)
unfolding noted_all after
Kept-after calls l [] k = k
Kept-after calls l (a ∷ asked) k = Kept-after (noted calls l a) (next l a) asked (kept_next calls l a k)

-- an accepted clear, load or restart starts a tally that stands for no steps, whatever was lent to it
module _ (l : Carried) (a : Asked) where
  starts_by : EffectOf l a → accepts l a ≡ true → resets a.call ≡ true → Kept [] (next l a)
  unfolding next sum_of
  starts_by (turned n same) y anew = absurd (let z : ◌≡◌ {A = Bool} true false = sym y ∙ n in let z : ◌≡◌ {A = ℕ} 0 1 = cc in omega arith)
  starts_by (moved t on moves) y anew =
      absurd (let z : ◌≡◌ {A = Bool} true false = sym anew ∙ on in let z : ◌≡◌ {A = ℕ} 0 1 = cc in omega arith)
  starts_by (began t u level) y anew =
      rw y (rw anew (record {
        order = omega (arith, level);
        committed = refl;
        rolled_back = refl;
        flushed = refl;
        balance = omega (arith, level);
      }))

  pub starts : sets_to_zero l a ≡ true → Kept [] (next l a)
  starts e =
      let b = (and-eq-true_iff (accepts l a) (resets a.call)).0 e in
      starts_by (effect_of l a) b.0 b.1

-- a count below its largest value is its sum
pub exact : (sum count : ℕ) → count ≡ min sum largest → (count ≡ largest → ⊥) → count ≡ sum
exact sum count e h = omega (arith, e, h)
