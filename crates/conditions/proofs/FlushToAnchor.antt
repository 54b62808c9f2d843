-- A flush to the checkpoint changes nothing, of a call of `serve`.
-- Assumes nothing.
use mathlib.Core.Path.{◌≡◌, refl, sym, ap, ◌∙◌}
use mathlib.Core.List.{List}
use Prim.Native.Nat.{ℕ, ◌+◌, ◌-◌, ◌≤◌, min}
use native.Mathlib.Omega.{arith}
use lib.ListN.{length}
use Rattle.answers.specs.Check.{Check}
use Rattle.std.proofs.Common.{Ok, Err}
use Rattle.answers.specs.declared.call.Call.TheVariants.{Step}
use Rattle.answers.specs.declared.call.Step.TheVariants.{Flush}
use Rattle.answers.specs.declared.ground.Ground.{Ground}
use Rattle.answers.specs.Answers.{is_accepted, answered}
use Rattle.answers.specs.Counts.{largest, counts}
use Rattle.answers.proofs.Firsts.{new_is}
use Rattle.unit.specs.Serve.{Reply}
use Rattle.layout.specs.States.{map_here}
use Rattle.views.specs.Laid.{padded}
use Rattle.views.specs.Trim.{trimmed_head, trimmed_journal}
use Rattle.views.specs.View.{Store, Shaped}
use Rattle.flushes.specs.Flush.{flush_check, flushed_head}
use Rattle.step_views.proofs.OnViews.{flush_anchor}
use Rattle.unit.specs.Carried.{Carried, Asked}
use Rattle.conditions.specs.Runs.{lending}
use Rattle.conditions.specs.Serving.{Seen, CallOfServe, Untouched, Of64Bits}
use Rattle.conditions.proofs.Refusals.{came}
use Rattle.conditions.proofs.Serves.{meant, done}
use Rattle.conditions.proofs.Tallies.{tallies}

-- no step more leaves a count of 64 bits
none_more : (count checkpoint : ℕ) → count ≤ largest → min (count + (checkpoint - checkpoint)) largest ≡ count
none_more count checkpoint h = omega arith

none_added : (count : ℕ) → count ≤ largest → min (count + 0) largest ≡ count
none_added count h = omega arith

module _ (k : Carried) (words bytes : List ℕ) (s : Seen) (shaped : Shaped k.head) (c : Of64Bits k.tally)
    (serves : CallOfServe k (lending (Step (Flush k.head.checkpoint)) words bytes) s) where
  abbrev flush : Asked
  flush = lending (Step (Flush k.head.checkpoint)) words bytes

  accepted : flush_check k.table k.journal k.head k.head.checkpoint ≡ (Ok tt) → Untouched k flush s
  accepted e =
      let d = done k flush s serves e in
      let state = k.head.checkpoint in
      let map = map_here k.table k.journal k.head state in
      let head = flushed_head k.head (length map) state in
      let anchor = flush_anchor k.table k.journal k.head shaped in
      let tally = tallies.flush_adds k state words bytes s serves (ap is_accepted d.answer) in
      let table = d.table ∙ sym (new_is e (padded (length k.table) map) k.table) ∙ ap (λ (x : Store). x.table) anchor in
      let journal = d.journal ∙ sym (new_is e (trimmed_journal head k.journal) k.journal) ∙ ap (λ (x : Store). x.journal) anchor in
      let last = d.head ∙ sym (new_is e (trimmed_head head) k.head) ∙ ap (λ (x : Store). x.head) anchor in (
        (λ i. record {
          tally = (tally ∙ (λ j. counts
              (none_added k.tally.committed c.committed j)
              (none_added k.tally.rolled_back c.rolled_back j)
              (none_more k.tally.flushed state c.flushed j))) i;
          table = table i;
          journal = journal i;
          head = last i;
        }),
        d.words,
        d.bytes,
      )

  refused : (ground : Ground) → flush_check k.table k.journal k.head k.head.checkpoint ≡ Err ground → Untouched k flush s
  refused ground e =
      (came k flush s serves
      (ap (λ (r : Reply). is_accepted r.answer) serves.0.0
      ∙ ap (λ (x : Check). is_accepted (answered x (meant k flush).accepted.answer)) e)).1

  pub flush_to_the_anchor : Untouched k flush s
  flush_to_the_anchor = go (flush_check k.table k.journal k.head k.head.checkpoint) refl
    where
      go : (x : Check) → flush_check k.table k.journal k.head k.head.checkpoint ≡ x → Untouched k flush s
      go (Ok tt) e = accepted e
      go (Err ground) e = refused ground e
