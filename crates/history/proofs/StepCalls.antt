-- Commit and rollback: the unit's transition is the plain list's, and a store can follow the plain list that it leaves.
-- Assumes nothing.
use mathlib.Core.Path.{◌≡◌, ap, subst, ◌∙◌}
use mathlib.Core.Bool.{not}
use mathlib.Core.List.{List, [], ◌∷◌}
use Prim.Native.Nat.{ℕ, ◌-◌, ◌≤◌}
use native.Mathlib.Omega.{arith}
use lib.Dec.{eqb, ltb}
use lib.ListN.{length}
use Rattle.changes.specs.Lists.{is_list}
use Rattle.std.proofs.Common.{Ok}
use Rattle.answers.specs.declared.call.Step.TheVariants.{Commit, RollBack}
use Rattle.views.specs.View.{Store, View, decode, Good}
use Rattle.commits.specs.Commit.{commit_check}
use Rattle.rollbacks.specs.RollBack.{roll_check}
use Rattle.step_views.specs.StepViews.{commit_view, roll_view}
use Rattle.commits.proofs.CommitAccepted.{commit_ok}
use Rattle.rollbacks.proofs.RollBackAccepted.{RollOk, roll_ok}
use Rattle.step_views.proofs.OnViews.{commit_leaves, roll_leaves}
use Rattle.history.specs.Named.{step, calling, done}
use Rattle.history.specs.Plain.{met, accept, first_of, Plain, tip_of, state_tests, step_tests, checked, with_line, grown, cut_above}
use Rattle.history.specs.Traces.{store_transition}
use Rattle.history.proofs.Lines.{grown_tip, grown-Whole, cut_tip, cut_Whole}
use Rattle.history.proofs.Views.{view_of, Fit, floor_most, commit_view_lem, roll_view_lem}
use Rattle.history.proofs.Stored.{store_of, stored, verdict_of, verdict_of_lem, accepted_done, transition_by, settle, view_back}
use Rattle.history.proofs.Stored.{store_Shaped}
use Rattle.history.proofs.Stored.{journal_long, past_two, checkpoint_is, tip_is, state_same, held_same, used_same}

module _ (p : Plain) (f : Fit p) where
  abbrev T : List ℕ
  T = (store_of p).table

  abbrev J : List ℕ
  J = (store_of p).journal

  abbrev s : Store
  s = store_of p

  -- commit
  module _ (list : List ℕ) where
    commit_checks : verdict_of (commit_check T J s.head list) ≡ first_of (step_tests p Commit list)
    commit_checks =
        ap verdict_of (past_two p f _)
        ∙ verdict_of_lem _
        ∙ (λ i.
        first_of
        (met (not (is_list list)) 6
        ∷ met (eqb (tip_is p f i) 4294967295) 12
        ∷ met (eqb (held_same p f i) 64) 13
        ∷ met (ltb (journal_long p f i - used_same p f i) (length list)) 14
        ∷ []))

    view_committed : commit_view (decode s) list ≡ view_of (with_line p (grown p.line list))
    view_committed = ap (λ (v : View). commit_view v list) (view_back p f) ∙ commit_view_lem p f list

    pub commit_agrees : (bytes : List ℕ) → let call = calling (step Commit) list bytes in store_transition s call list
        ≡ transition_by p call (checked p call)
    commit_agrees bytes =
        settle p (calling (step Commit) list bytes) list commit_checks
        (λ e i. record {
          response = done;
          next = stored p f _ (commit_leaves T J s.head (store_Shaped p f) list e).is view_committed i;
        })

    pub commit_Fit : first_of (step_tests p Commit list) ≡ accept → Fit (with_line p (grown p.line list))
    commit_Fit e =
        let c = accepted_done _ (commit_checks ∙ e) in
        record {
          range = f.range;
          whole = grown-Whole p.line f.whole list (commit_ok T J s.head list c).list_ok;
          low = f.low;
          high = omega (arith, f.high, grown_tip p.line f.whole list);
          good = subst Good view_committed (commit_leaves T J s.head (store_Shaped p f) list c).good;
        }

  -- rollback
  module _ (state : ℕ) where
    roll_checks : verdict_of (roll_check T J s.head state) ≡ first_of (state_tests p state)
    roll_checks = ap verdict_of (past_two p f _) ∙ verdict_of_lem _ ∙ ap first_of (state_same p f state)

    module _ (e : roll_check T J s.head state ≡ (Ok tt)) where
      roll_met : RollOk T J s.head state
      roll_met = roll_ok T J s.head state e

      roll_low : p.checkpoint ≤ state
      roll_low = omega (arith, checkpoint_is p f, roll_met.low)

      roll_high : state ≤ tip_of p.line
      roll_high = omega (arith, tip_is p f, roll_met.high)

      view_rolled : roll_view (decode s) state ≡ view_of (with_line p (cut_above p.line state))
      view_rolled = ap (λ (v : View). roll_view v state) (view_back p f) ∙ roll_view_lem p f state roll_low roll_high

      from_start : p.line.start ≤ state
      from_start = omega (arith, f.low, floor_most p.checkpoint p.places, roll_low)

      roll_fits : Fit (with_line p (cut_above p.line state))
      roll_fits =
          record {
            range = f.range;
            whole = cut_Whole p.line f.whole state from_start roll_high;
            low = f.low;
            high = omega (arith, roll_low, cut_tip p.line f.whole state from_start roll_high);
            good = subst Good view_rolled (roll_leaves T J s.head (store_Shaped p f) state e).good;
          }

    pub roll_agrees : (list bytes : List ℕ)
        → let call = calling (step (RollBack state)) list bytes in store_transition s call list ≡ transition_by p call (checked p call)
    roll_agrees list bytes =
        settle p (calling (step (RollBack state)) list bytes) list roll_checks
        (λ e i. record {
          response = done;
          next = stored p f _ (roll_leaves T J s.head (store_Shaped p f) state e).is (view_rolled e) i;
        })

    pub roll_Fit : first_of (state_tests p state) ≡ accept → Fit (with_line p (cut_above p.line state))
    roll_Fit e = roll_fits (accepted_done _ (roll_checks ∙ e))

    -- the state that a rollback goes to is one of the line's, from the checkpoint on
    pub roll_range : first_of (state_tests p state) ≡ accept → (p.checkpoint ≤ state) × (state ≤ tip_of p.line)
    roll_range e = (roll_low (accepted_done _ (roll_checks ∙ e)), roll_high (accepted_done _ (roll_checks ∙ e)))
