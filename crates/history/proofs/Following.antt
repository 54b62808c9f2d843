-- A store that follows a plain list answers each call as the list does, and follows what the list is then.
-- Assumes nothing.
use mathlib.Core.Path.{◌≡◌, refl, sym, subst}
use mathlib.Core.List.{List, [], map}
use Prim.Native.Nat.{ℕ, ◌≤◌}
use native.Mathlib.Omega.{arith}
use lib.ListN.{get_or}
use Rattle.entry.specs.Word.{offer_of}
use Rattle.answers.specs.declared.call.Query.TheVariants.{LookUp, Write, WriteState}
use Rattle.answers.specs.declared.call.Read.TheVariants.{Issue, Forward, Release}
use Rattle.answers.specs.declared.call.Step.TheVariants.{Commit, RollBack, Flush}
use Rattle.history.specs.Named.{Named, step, read, ask, Call, calling, refused}
use Rattle.history.specs.Plain.{Verdict, accept, refuse, response_by, left_by, first_of, Plain, reading, map_at, shown}
use Rattle.history.specs.Plain.{grown, cut_above, tests, checked, given_by, given, changed_by, changed}
use Rattle.history.specs.Traces.{ReadSet, nothing, holds, holds_or, words_lent, read_sets_after}
use Rattle.history.specs.Traces.{store_transition}
use Rattle.history.proofs.FlushCall.{flush_agrees, flush_Fit, flush_range}
use Rattle.history.proofs.WriteCall.{write_agrees, write_state_agrees}
use Rattle.history.proofs.Lines.{grown_map, grown_between, cut_map, cut_between}
use Rattle.history.proofs.ReadCalls.{ShowsAt, look_up_agrees, issue_agrees, issue_Fit, issue_set, forward_agrees}
use Rattle.history.proofs.ReadCalls.{forward_Fit, release_agrees, release_Fit}
use Rattle.history.proofs.StepCalls.{commit_agrees, commit_Fit, roll_agrees, roll_Fit, roll_range}
use Rattle.history.proofs.Stored.{store_of, transition_by}
use Rattle.history.proofs.Outstanding.{Kept, Outstanding, from_set, in_slots, sets-line}
use Rattle.history.proofs.Outstanding.{sets_later, sets_slot, sets-closed}
use Rattle.history.proofs.Views.{Fit, floor_most}

-- a store that follows a plain list, with the read sets that are out
module _ (p : Plain) (f : Fit p) (sets : List ReadSet) (t : Outstanding p sets) where
  -- what is lent to a forward on an open slot
  lent_shows : (slot : ℕ) (words : List ℕ) → ShowsAt p slot (holds_or (get_or sets slot nothing) words)
  lent_shows slot words n offers e =
      from_set p.line p.checkpoint (get_or sets slot nothing) words n offers
      (subst (λ y. Kept p.line p.checkpoint (get_or sets slot nothing) y) e (t.each slot))

  -- each call: the unit's transition is the plain list's,
  pub agrees : (named : Named) (list bytes words : List ℕ)
      → let call = calling named list bytes in
      store_transition (store_of p) call (words_lent sets named list words) ≡ transition_by p call (checked p call)
  agrees (step Commit) list bytes words = commit_agrees p f list bytes
  agrees (step (RollBack state)) list bytes words = roll_agrees p f state list bytes
  agrees (step (Flush state)) list bytes words = flush_agrees p f state list bytes
  agrees (read (Issue reader)) list bytes words = issue_agrees p f reader list bytes
  agrees (read (Forward reader state)) list bytes words =
      forward_agrees p f reader state (holds_or (get_or sets reader.slot nothing) words) (lent_shows reader.slot words) list bytes
  agrees (read (Release reader)) list bytes words = release_agrees p f reader list bytes
  agrees (ask (LookUp asked)) list bytes words = look_up_agrees p f asked list bytes
  agrees (ask (Write format)) list bytes words = write_agrees p f format bytes list
  agrees (ask (WriteState format state)) list bytes words = write_state_agrees p f format state bytes list

  -- a store can follow what it leaves,
  fits : (named : Named) (list bytes : List ℕ) → first_of (tests p named list bytes) ≡ accept → Fit (changed_by p named list)
  fits (step Commit) list bytes e = commit_Fit p f list e
  fits (step (RollBack state)) list bytes e = roll_Fit p f state e
  fits (step (Flush state)) list bytes e = flush_Fit p f state e
  fits (read (Issue reader)) list bytes e = issue_Fit p f reader list e
  fits (read (Forward reader state)) list bytes e =
      forward_Fit p f reader state (holds_or (get_or sets reader.slot nothing) []) (lent_shows reader.slot []) e
  fits (read (Release reader)) list bytes e = release_Fit p f reader e
  fits (ask query) list bytes e = f

  -- and the read sets that are out are what their issues filled
  issued : (named : Named) (list bytes : List ℕ) → first_of (tests p named list bytes) ≡ accept
      → Outstanding (changed_by p named list) (read_sets_after sets named (given_by p named list bytes))
  issued (step Commit) list bytes e =
      let c = p.checkpoint in
      sets-line p f sets t (grown p.line list)
      (grown_map p.line f.whole list c f.high)
      (λ n from below. grown_between p.line f.whole list n c from below f.high)
  issued (step (RollBack state)) list bytes e =
      let r = roll_range p f state e in
      let c = p.checkpoint in
      let start : p.line.start ≤ state = omega (arith, f.low, floor_most c p.places, r.0) in
      sets-line p f sets t (cut_above p.line state)
      (cut_map p.line f.whole state start r.1 c r.0)
      (λ n from below. cut_between p.line f.whole state start r.1 n c from below r.0)
  issued (step (Flush state)) list bytes e =
      let r = flush_range p f state e in
      sets_later p f sets t state r.0 r.1
  issued (read (Issue reader)) list bytes e =
      sets_slot p f sets t reader.slot
      (holds (shown (map_at p.line p.checkpoint) (map offer_of list)))
      (reading p.checkpoint (map offer_of list))
      (in_slots reader _ e) (issue_set p f reader list e)
  issued (read (Forward reader state)) list bytes e = sets-closed p f sets t reader.slot (in_slots reader _ e)
  issued (read (Release reader)) list bytes e = sets-closed p f sets t reader.slot (in_slots reader _ e)
  issued (ask query) list bytes e = t

  -- a refused call leaves the read sets that are out
  kept : (named : Named) (n : ℕ) → read_sets_after sets named (refused n) ≡ sets
  kept (step call) n = refl
  kept (read (Issue reader)) n = refl
  kept (read (Forward reader state)) n = refl
  kept (read (Release reader)) n = refl
  kept (ask query) n = refl

  pub Fit-after : (call : Call) (v : Verdict) → checked p call ≡ v → Fit (left_by v (changed p call) p)
  Fit-after call accept e = fits call.named call.list call.bytes e
  Fit-after call (refuse n) e = f

  pub sets_after : (call : Call) (v : Verdict) → checked p call ≡ v
      → Outstanding (left_by v (changed p call) p) (read_sets_after sets call.named (response_by v (given p call)))
  sets_after call accept e = issued call.named call.list call.bytes e
  sets_after call (refuse n) e = subst (Outstanding p) (sym (kept call.named n)) t
