-- With depth 0 the plain list answers as it did without depth: a state that passed ground 11 is not above the tip.
-- Assumes nothing.
use mathlib.Core.Path.{◌≡◌, refl, ap, ◌∙◌}
use mathlib.Core.Bool.{Bool, true, false, not, ◌&&◌}
use mathlib.Core.List.{List, [], ◌∷◌, ◌++◌}
use Prim.Native.Nat.{ℕ, ◌+◌}
use native.Mathlib.Omega.{arith}
use borrow.Author.Tests.{le-ltb}
use lib.Dec.{eqb, ltb}
use lib.ListN.{length}
use Rattle.answers.specs.declared.call.Read.TheVariants.{Issue, Forward, Release}
use Rattle.answers.specs.declared.call.Step.TheVariants.{Commit, RollBack, Flush}
use Rattle.history.specs.Earlier.{earlier_tests, earlier_checked, earlier_transition, earlier_responses}
use Rattle.history.specs.Named.{Named, step, read, ask, Call, Response}
use Rattle.history.specs.Plain.{Test, met, Verdict, accept, refuse, first_of, response_by, left_by, Plain, tip_of, map_at}
use Rattle.history.specs.Plain.{state_tests, tests, given, changed_by, changed}
use Rattle.history.specs.Traces.{plain_responses}
use Rattle.history.proofs.NamedStates.{within}

-- a test that is not met where those before it are not can be left out
left_out : (before : List Test) (t : Bool) (n : ℕ) (rest : List Test) → (first_of before ≡ accept → t ≡ false)
    → first_of (before ++ (met t n ∷ rest)) ≡ first_of (before ++ rest)
unfolding first_of
left_out [] t n rest h = ap (λ (b : Bool). first_of (met b n ∷ rest)) (h refl)
left_out (met true m ∷ before) t n rest h = refl
left_out (met false m ∷ before) t n rest h = left_out before t n rest h

pub and_no : (b : Bool) → b && false ≡ false
and_no true = refl
and_no false = refl

module _ (p : Plain) (none : p.depth ≡ 0) where
  -- ground 20 of a flush
  not_barred : (state : ℕ) → first_of (state_tests p state) ≡ accept
      → not (eqb state p.checkpoint) && ltb (tip_of p.line) (state + p.depth) ≡ false
  not_barred state e =
      let high = (within p state [] e).1 in
      ap (λ (b : Bool). not (eqb state p.checkpoint) && b) (le-ltb (tip_of p.line) (state + p.depth) (omega (arith, high, none)))
      ∙ and_no (not (eqb state p.checkpoint))

  same_check : (named : Named) (list bytes : List ℕ) → first_of (tests p named list bytes) ≡ first_of (earlier_tests p named list bytes)
  same_check (step Commit) list bytes = refl
  same_check (step (RollBack state)) list bytes = refl
  same_check (step (Flush state)) list bytes =
      left_out (state_tests p state) _ 20 (met (ltb p.limits.table (length (map_at p.line state))) 16 ∷ []) (not_barred state)
  same_check (read call) list bytes = refl
  same_check (ask query) list bytes = refl

-- no call changes the depth
still : (p : Plain) (named : Named) (list : List ℕ) → (changed_by p named list).depth ≡ p.depth
still p (step Commit) list = refl
still p (step (RollBack state)) list = refl
still p (step (Flush state)) list = refl
still p (read (Issue reader)) list = refl
still p (read (Forward reader state)) list = refl
still p (read (Release reader)) list = refl
still p (ask query) list = refl

still_after : (v : Verdict) (p : Plain) (c : Call) → (left_by v (changed p c) p).depth ≡ p.depth
still_after accept p c = still p c.named c.list
still_after (refuse n) p c = refl

pub as_earlier : (p : Plain) → p.depth ≡ 0 → (calls : List Call) → plain_responses p calls ≡ earlier_responses p calls
unfolding plain_responses earlier_responses
as_earlier p none [] = refl
as_earlier p none (c ∷ calls) =
    ap (λ (v : Verdict). response_by v (given p c) ∷ plain_responses (left_by v (changed p c) p) calls)
    (same_check p none c.named c.list c.bytes)
    ∙ ap (λ (rest : List Response). (earlier_transition p c).response ∷ rest)
    (as_earlier (earlier_transition p c).next (still_after (earlier_checked p c) p c ∙ none) calls)
