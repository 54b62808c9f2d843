-- A rollback on the encoding of a view is the encoding of the view with its first steps, which is good.
-- Assumes nothing.
use mathlib.Core.Path.{◌≡◌, sym, ap, ap₂, subst, ◌∙◌}
use mathlib.Core.List.{List, ◌++◌, append_assoc}
use Prim.Native.Nat.{ℕ, ◌-◌, ◌≤◌}
use native.Mathlib.Omega.{arith}
use lib.ListN.{length, take, drop, replicate, length-append, take-append-drop}
use lib.Seq.{length-take-le}
use Rattle.changes.specs.Runs.{start_of}
use Rattle.layout.specs.Heads.{with_steps}
use Rattle.layout.specs.declared.head.Head.{Head}
use Rattle.views.specs.Laid.{flat, laid_words, laid_marks, Fits}
use Rattle.views.specs.View.{Store, View, held_steps, tip_of, encode, Good}
use Rattle.views.proofs.Laid.{laid_end, laid_long, laid_cut, Fits-front}
use Rattle.views.proofs.Setters.{good_steps}
use Rattle.rollbacks.specs.RollBack.{kept_of, cut_at, cut_to}
use Rattle.step_views.specs.StepViews.{roll_view}

-- the store that an accepted rollback leaves of a store
abbrev pub rolled_back : Store → ℕ → Store
rolled_back s state = record {
  table = s.table;
  journal = cut_at s.journal (start_of s.head.ends (kept_of s.head state));
  head = cut_to s.head (kept_of s.head state) state;
}

module _ (h : Head) (v : View) (g : Good v) (state : ℕ) (low : v.checkpoint ≤ state) (high : state ≤ tip_of v) where
  abbrev kept : List (List ℕ)
  kept = v.old ++ take (state - v.checkpoint) v.steps

  abbrev gone : List (List ℕ)
  gone = drop (state - v.checkpoint) v.steps

  pub split : held_steps v ≡ kept ++ gone
  split =
      sym
      (append_assoc v.old (take (state - v.checkpoint) v.steps) gone
      ∙ ap (λ (l : List (List ℕ)). v.old ++ l) (take-append-drop (state - v.checkpoint) v.steps))

  pub steps_long : length (take (state - v.checkpoint) v.steps) ≡ state - v.checkpoint
  steps_long = length-take-le (state - v.checkpoint) v.steps (omega arith)

  kept_is : kept_of (encode h v).head state ≡ length kept
  unfolding encode
  kept_is = omega (arith, length-append v.old (take (state - v.checkpoint) v.steps), steps_long, g.since)

  end_is : start_of (encode h v).head.ends (kept_of (encode h v).head state) ≡ length (flat kept)
  unfolding encode
  end_is = ap₂ (λ (ss : List (List ℕ)) (n : ℕ). start_of (laid_marks ss) n) split kept_is ∙ laid_end kept gone

  journal_cut : cut_at (encode h v).journal (start_of (encode h v).head.ends (kept_of (encode h v).head state))
      ≡ (encode h (roll_view v state)).journal
  unfolding encode roll_view
  journal_cut =
      let room = v.limits.journal in
      let end = length (flat kept) in
      ap (cut_at (laid_words room (held_steps v))) end_is
      ∙ ap (λ (n : ℕ). take end (laid_words room (held_steps v)) ++ replicate (n - end) 0) (laid_long room (held_steps v) g.held).0
      ∙ ap (λ (ss : List (List ℕ)). take end (laid_words room ss) ++ replicate (room - end) 0) split
      ∙ (laid_cut kept gone room).0

  ends_cut : take (kept_of (encode h v).head state) (encode h v).head.ends
      ++ replicate (64 - kept_of (encode h v).head state) 0 ≡ (encode h (roll_view v state)).head.ends
  unfolding encode roll_view
  ends_cut =
      ap₂ (λ (n : ℕ) (ss : List (List ℕ)). take n (laid_marks ss) ++ replicate (64 - n) 0) kept_is split
      ∙ (laid_cut kept gone v.limits.journal).1

  tip_cut : state ≡ tip_of (roll_view v state)
  unfolding roll_view
  tip_cut = omega (arith, steps_long)

  -- the encoding of a view, rolled back, is the encoding of the view rolled back
  pub roll_encoded : rolled_back (encode h v) state ≡ encode h (roll_view v state)
  unfolding encode roll_view cut_to
  roll_encoded i =
      record {
        table = (encode h v).table;
        journal = journal_cut i;
        head = with_steps (encode h v).head (tip_cut i) (ends_cut i);
      }

  pub roll_Good : Good (roll_view v state)
  unfolding roll_view
  roll_Good =
      good_steps v g (take (state - v.checkpoint) v.steps)
      (Fits-front kept gone v.limits.journal (subst (Fits v.limits.journal) split g.held))
