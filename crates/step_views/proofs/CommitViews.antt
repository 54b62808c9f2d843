-- A commit on the encoding of a view is the encoding of the view with one more step, which is good.
-- Assumes nothing.
use mathlib.Core.Path.{◌≡◌, sym, ap, ap₂, subst, ◌∙◌}
use mathlib.Core.Bool.{true}
use mathlib.Core.List.{List, [], ◌∷◌, ◌++◌, append_assoc}
use Prim.Native.Nat.{ℕ, ◌+◌, ◌-◌, ◌≤◌, ◌<◌}
use native.Mathlib.Omega.{arith}
use lib.ListN.{length, set, length-append}
use Rattle.changes.specs.Lists.{is_list}
use Rattle.changes.specs.Runs.{start_of}
use Rattle.layout.specs.Heads.{with_steps}
use Rattle.layout.specs.States.{held_of}
use Rattle.layout.specs.declared.head.Head.{Head}
use Rattle.views.specs.Laid.{flat, laid_words, laid_marks, Fits}
use Rattle.views.specs.View.{Store, View, held_steps, tip_of, encode, Good}
use Rattle.views.proofs.Laid.{last_end, laid_more, fits_more}
use Rattle.views.proofs.Setters.{good_steps}
use Rattle.commits.specs.Commit.{used_of, with_list, with_step}
use Rattle.step_views.specs.StepViews.{commit_view}

-- the store that an accepted commit leaves of a store
abbrev pub committed : Store → List ℕ → Store
committed s list = record {
  table = s.table;
  journal = with_list s.journal (used_of s.head) list;
  head = with_step s.head (held_of s.head) (used_of s.head + length list);
}

-- a good view: how many steps its encoding holds, and how many words they take
module _ (h : Head) (v : View) (g : Good v) where
  pub held_is : held_of (encode h v).head ≡ length (held_steps v)
  unfolding encode
  held_is = omega (arith, length-append v.old v.steps, g.since)

  pub used_is : used_of (encode h v).head ≡ length (flat (held_steps v))
  unfolding encode
  used_is = ap (start_of (laid_marks (held_steps v))) held_is ∙ last_end v.limits.journal (held_steps v)

module _ (h : Head) (v : View) (g : Good v) (list : List ℕ) (room : length (held_steps v) < 64) where
  more : held_steps (commit_view v list) ≡ held_steps v ++ (list ∷ [])
  unfolding commit_view
  more = sym (append_assoc v.old v.steps (list ∷ []))

  journal_more : with_list (encode h v).journal (used_of (encode h v).head) list ≡ (encode h (commit_view v list)).journal
  unfolding encode commit_view
  journal_more =
      ap (λ (u : ℕ). with_list (laid_words v.limits.journal (held_steps v)) u list) (used_is h v g)
      ∙ (laid_more v.limits.journal (held_steps v) list room).0
      ∙ ap (laid_words v.limits.journal) (sym more)

  ends_more : set (encode h v).head.ends (held_of (encode h v).head) (used_of (encode h v).head + length list)
      ≡ (encode h (commit_view v list)).head.ends
  unfolding encode commit_view
  ends_more =
      ap₂ (λ (k u : ℕ). set (laid_marks (held_steps v)) k (u + length list)) (held_is h v g) (used_is h v g)
      ∙ (laid_more v.limits.journal (held_steps v) list room).1
      ∙ ap laid_marks (sym more)

  tip_more : tip_of v + 1 ≡ tip_of (commit_view v list)
  unfolding commit_view
  tip_more = omega (arith, length-append v.steps (list ∷ []))

  -- the encoding of a view, committed, is the encoding of the committed view
  pub commit_encoded : committed (encode h v) list ≡ encode h (commit_view v list)
  unfolding encode commit_view with_step
  commit_encoded i =
      record {
        table = (encode h v).table;
        journal = journal_more i;
        head = with_steps (encode h v).head (tip_more i) (ends_more i);
      }

  pub commit_Good : is_list list ≡ true → length list ≤ v.limits.journal - length (flat (held_steps v)) → Good (commit_view v list)
  unfolding commit_view
  commit_Good t fits =
      good_steps v g (v.steps ++ (list ∷ []))
      (subst (Fits v.limits.journal) (sym more) (fits_more v.limits.journal (held_steps v) list g.held t room fits))
