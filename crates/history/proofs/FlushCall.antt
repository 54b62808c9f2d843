-- Flush: the unit's transition is the plain list's, and a store can follow the plain list that it leaves.
-- Assumes nothing.
use mathlib.Core.Path.{◌≡◌, ap, ap₂, subst, ◌∙◌}
use mathlib.Core.List.{List, [], ◌∷◌, ◌++◌}
use Prim.Native.Nat.{ℕ, ◌≤◌}
use native.Mathlib.Omega.{arith}
use lib.Dec.{ltb}
use lib.ListN.{length}
use Rattle.std.proofs.Common.{Ok}
use Rattle.answers.specs.declared.call.Step.TheVariants.{Flush}
use Rattle.layout.specs.States.{map_here}
use Rattle.views.specs.Trim.{trimmed}
use Rattle.views.specs.View.{Store, View, decode, Good}
use Rattle.flushes.specs.Flush.{flush_check}
use Rattle.step_views.specs.StepViews.{flushed_view}
use Rattle.flushes.proofs.Flushing.{FlushOk, flush_ok}
use Rattle.step_views.proofs.OnViews.{flush_leaves}
use Rattle.history.specs.Named.{step, calling, done}
use Rattle.history.specs.Plain.{Test, met, accept, first_of, Plain, tip_of, checked, with_checkpoint, state_tests, barred_tests, step_tests}
use Rattle.history.specs.Traces.{store_transition}
use Rattle.history.proofs.Stored.{store_of, stored, verdict_of, verdict_of_lem, accepted_done, transition_by}
use Rattle.history.proofs.Stored.{settle, view_back}
use Rattle.history.proofs.Stored.{store_Shaped, table_long, past_two, checkpoint_is, tip_is, state_same, barred_same}
use Rattle.history.proofs.NamedStates.{only_last, within, map_same}
use Rattle.history.proofs.Views.{view_of, Fit, flush_view, floor_later}

module _ (p : Plain) (f : Fit p) (state : ℕ) where
  abbrev T : List ℕ
  T = (store_of p).table

  abbrev J : List ℕ
  J = (store_of p).journal

  abbrev s : Store
  s = store_of p

  flush_checks : verdict_of (flush_check T J s.head state) ≡ first_of (step_tests p (Flush state) [])
  flush_checks =
      ap verdict_of (past_two p f _)
      ∙ verdict_of_lem _
      ∙ ap₂ (λ (gs hs : List Test). first_of (gs ++ hs ++ (met (ltb (length T) (length (map_here T J s.head state))) 16 ∷ [])))
      (state_same p f state) (barred_same p f state)
      ∙ only_last (state_tests p state ++ barred_tests p state) _ _ 16
      (λ a. let w = within p state (barred_tests p state) a in ap₂ (λ (n : ℕ) (m : List ℕ). ltb n (length m))
      (table_long p f) (map_same p f state w.0 w.1))

  abbrev flushed : Plain
  flushed = with_checkpoint p state

  module _ (e : flush_check T J s.head state ≡ (Ok tt)) where
    flush_met : FlushOk T J s.head state
    flush_met = flush_ok T J s.head state e

    low : p.checkpoint ≤ state
    low = omega (arith, checkpoint_is p f, flush_met.low)

    high : state ≤ tip_of p.line
    high = omega (arith, tip_is p f, flush_met.high)

    view_flushed : trimmed (flushed_view (decode s) state) ≡ view_of flushed
    view_flushed = ap (λ (v : View). trimmed (flushed_view v state)) (view_back p f) ∙ flush_view p f state low high

    flush_fits : Fit flushed
    flush_fits =
        record {
          range = f.range;
          whole = f.whole;
          low = omega (arith, f.low, floor_later p f state low);
          high = high;
          good = subst Good view_flushed (flush_leaves T J s.head (store_Shaped p f) state e).good;
        }

  pub flush_agrees : (list bytes : List ℕ)
      → let call = calling (step (Flush state)) list bytes in store_transition s call list ≡ transition_by p call (checked p call)
  flush_agrees list bytes =
      settle p (calling (step (Flush state)) list bytes) list flush_checks
      (λ e i. record {
        response = done;
        next = stored p f _ (flush_leaves T J s.head (store_Shaped p f) state e).is (view_flushed e) i;
      })

  pub flush_Fit : first_of (step_tests p (Flush state) []) ≡ accept → Fit flushed
  flush_Fit e = flush_fits (accepted_done _ (flush_checks ∙ e))

  -- the state that a flush goes to is one of the line's, from the checkpoint on
  pub flush_range : first_of (step_tests p (Flush state) []) ≡ accept → (p.checkpoint ≤ state) × (state ≤ tip_of p.line)
  flush_range e = (low (accepted_done _ (flush_checks ∙ e)), high (accepted_done _ (flush_checks ∙ e)))
