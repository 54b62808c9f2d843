-- Commit, rollback and flush on views: what an accepted call leaves is the encoding of the view that the call makes of the view before it.
-- Assumes nothing.
use mathlib.Core.Path.{◌≡◌, refl, sym, ap, ◌∙◌}
use mathlib.Core.List.{List}
use Prim.Native.Nat.{ℕ, ◌≤◌, ◌<◌}
use native.Mathlib.Omega.{arith}
use lib.ListN.{length}
use Rattle.answers.specs.Check.{Check}
use Rattle.std.proofs.Common.{Ok, Err}
use Rattle.answers.specs.declared.ground.Ground.{Ground}
use Rattle.answers.proofs.Firsts.{new_is, old_is}
use Rattle.layout.specs.declared.head.Head.{Head}
use Rattle.layout.specs.States.{held_of, map_here}
use Rattle.views.specs.Trim.{trimmed_head, trimmed_journal, trimmed}
use Rattle.views.specs.View.{Store, held_steps, tip_of, padded, flat, encode, decode, map_at, Good, Shaped}
use Rattle.soundness.specs.Facts.{Sound}
use Rattle.views.proofs.States.{map_is}
use Rattle.views.proofs.Trims.{trim_store}
use Rattle.views.proofs.Encodes.{Encodes}
use Rattle.views.proofs.Views.{restored, decoded_Good}
use Rattle.commits.specs.Commit.{used_of, commit_check}
use Rattle.flushes.specs.Flush.{flush_check, flushed_head, flush_table, flush_journal, flush_head}
use Rattle.rollbacks.specs.RollBack.{roll_check}
use Rattle.step_views.specs.StepViews.{commit_view, roll_view, flushed_view}
use Rattle.commits.proofs.CommitAccepted.{CommitOk, commit_ok}
use Rattle.rollbacks.proofs.RollBackAccepted.{RollOk, roll_ok}
use Rattle.step_views.proofs.CommitViews.{held_is, used_is, committed, commit_encoded, commit_Good}
use Rattle.step_views.proofs.FlushViews.{flushed_in, flush_trimmed, flush_Good, flush_nothing}
use Rattle.flushes.proofs.Flushing.{FlushOk, flush_ok}
use Rattle.step_views.proofs.RollViews.{rolled_back, roll_encoded, roll_Good}

-- what lies in memory after each accepted call
module _ (table journal : List ℕ) (head : Head) (p : Shaped head) where
  abbrev pub here : Store
  here = record { table = table; journal = journal; head = head }

  same : Sound table journal head → encode head (decode here) ≡ here
  same = restored table journal head p

  good : Sound table journal head → Good (decode here)
  good = decoded_Good table journal head p

  module _ (list : List ℕ) (e : commit_check table journal head list ≡ (Ok tt)) where
    commit_met : CommitOk table journal head list
    commit_met = commit_ok table journal head list e

    held_same : length (held_steps (decode here)) ≡ held_of head
    held_same =
        sym (held_is head (decode here) (good commit_met.sound)) ∙ ap (λ (s : Store). held_of s.head) (same commit_met.sound)

    used_same : length (flat (held_steps (decode here))) ≡ used_of head
    used_same =
        sym (used_is head (decode here) (good commit_met.sound)) ∙ ap (λ (s : Store). used_of s.head) (same commit_met.sound)

    room : length (held_steps (decode here)) < 64
    room = omega (arith, held_same, commit_met.room)

    limit : (decode here).limits.journal ≡ length journal
    unfolding decode
    limit = refl

    -- "Commit appends a list as state tip + 1."
    pub commit_leaves : Encodes (committed here list) head (commit_view (decode here) list)
    commit_leaves =
        record {
          is =
              ap (λ (s : Store). committed s list) (sym (same commit_met.sound))
              ∙ commit_encoded head (decode here) (good commit_met.sound) list room;
          good =
              commit_Good head (decode here) (good commit_met.sound) list room commit_met.list_ok
              (omega (arith, commit_met.fits, used_same, limit));
        }

  module _ (state : ℕ) (e : roll_check table journal head state ≡ (Ok tt)) where
    roll_met : RollOk table journal head state
    roll_met = roll_ok table journal head state e

    low : (decode here).checkpoint ≤ state
    unfolding decode
    low = roll_met.low

    tip_same : tip_of (decode here) ≡ head.tip
    unfolding encode
    tip_same = ap (λ (s : Store). s.head.tip) (same roll_met.sound)

    high : state ≤ tip_of (decode here)
    high = omega (arith, tip_same, roll_met.high)

    -- "Rollback to s makes s the tip and zeroes the words above."
    pub roll_leaves : Encodes (rolled_back here state) head (roll_view (decode here) state)
    roll_leaves =
        record {
          is =
              ap (λ (s : Store). rolled_back s state) (sym (same roll_met.sound))
              ∙ roll_encoded head (decode here) (good roll_met.sound) state low high;
          good = roll_Good head (decode here) (good roll_met.sound) state low high;
        }

  module _ (state : ℕ) (e : flush_check table journal head state ≡ (Ok tt)) where
    flush_met : FlushOk table journal head state
    flush_met = flush_ok table journal head state e

    map_same : map_here table journal head state ≡ map_at (decode here) state
    map_same = map_is table journal head flush_met.sound state flush_met.low flush_met.high

    above : (decode here).checkpoint ≤ state
    unfolding decode
    above = flush_met.low

    tip_there : tip_of (decode here) ≡ head.tip
    unfolding encode
    tip_there = ap (λ (s : Store). s.head.tip) (same flush_met.sound)

    below : state ≤ tip_of (decode here)
    below = omega (arith, tip_there, flush_met.high)

    fits : length (map_at (decode here) state) ≤ (decode here).limits.table
    unfolding decode
    fits = omega (arith, flush_met.fits, ap length map_same)

    -- "Flush to s makes the book the map at s, and s the anchor."
    pub flush_leaves : Encodes (trim_store (flushed_in here state (map_here table journal head state))) head
        (trimmed (flushed_view (decode here) state))
    flush_leaves =
        record {
          is =
              ap (λ (m : List ℕ). trim_store (flushed_in here state m)) map_same
              ∙ ap (λ (s : Store). trim_store (flushed_in s state (map_at (decode here) state))) (sym (same flush_met.sound))
              ∙ flush_trimmed head (decode here) (good flush_met.sound) state above below fits;
          good = flush_Good head (decode here) (good flush_met.sound) state above below fits;
        }

  abbrev pub after_flush : ℕ → Store
  after_flush state =
      record {
        table = flush_table table journal head state;
        journal = flush_journal table journal head state;
        head = flush_head table journal head state;
      }

  -- "A flush to the anchor changes nothing.": it leaves what came, accepted or not
  accepted_nothing : flush_check table journal head head.checkpoint ≡ (Ok tt) → after_flush head.checkpoint ≡ here
  unfolding decode
  accepted_nothing e =
      let s = (flush_ok table journal head head.checkpoint e).sound in
      made e ∙ (flush_leaves head.checkpoint e).is ∙ ap (encode head) (flush_nothing (decode here) (good s)) ∙ same s
    where
      made : flush_check table journal head head.checkpoint ≡ (Ok tt)
          → after_flush head.checkpoint ≡ trim_store (flushed_in here head.checkpoint (map_here table journal head head.checkpoint))
      made d i =
          let left = trim_store (flushed_in here head.checkpoint (map_here table journal head head.checkpoint)) in
          record {
            table = new_is d left.table table i;
            journal = new_is d left.journal journal i;
            head = new_is d left.head head i;
          }

  refused_nothing : (state : ℕ) (r : Ground) → flush_check table journal head state ≡ Err r → after_flush state ≡ here
  refused_nothing state r e i =
      record {
        table = old_is e (padded (length table) (map_here table journal head state)) table i;
        journal = old_is e (trimmed_journal (flushed_head head (length (map_here table journal head state)) state) journal) journal i;
        head = old_is e (trimmed_head (flushed_head head (length (map_here table journal head state)) state)) head i;
      }

  pub flush_anchor : after_flush head.checkpoint ≡ here
  flush_anchor = by-check (flush_check table journal head head.checkpoint) refl
    where
      by-check : (o : Check) → flush_check table journal head head.checkpoint ≡ o → after_flush head.checkpoint ≡ here
      by-check (Ok tt) e = accepted_nothing e
      by-check (Err r) e = refused_nothing head.checkpoint r e
