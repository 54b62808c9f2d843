-- The tally, proved of the calls of `serve`.
-- Assumes nothing.
use mathlib.Core.Path.{◌≡◌, refl, sym, ap, subst, ◌∙◌}
use mathlib.Core.Bool.{Bool, true, false, ◌&&◌}
use mathlib.Core.List.{List, [], ◌∷◌}
use Prim.Native.Nat.{◌+◌, ◌-◌, min}
use lib.ListN.{get_or}
use Rattle.answers.specs.declared.call.Call.TheVariants.{Reset, Step, Read, Ask}
use Rattle.answers.specs.declared.call.Step.TheVariants.{Commit, RollBack, Flush}
use Rattle.answers.specs.declared.tally.Tally.{Tally}
use Rattle.answers.specs.Answers.{is_accepted}
use Rattle.answers.specs.Counts.{largest, resets, counts, counts_of}
use Rattle.answers.proofs.Counting.{count_anew, count_added}
use Rattle.unit.specs.Serve.{Reply}
use Rattle.calls.specs.Meaning.{performed}
use Rattle.unit.specs.Carried.{Carried, Asked, lent_to, next, after, sets_to_zero, committed_by, rolled_back_by, flushed_by}
use Rattle.unit.proofs.Theorems.{counts_are_sums, tally_balances, others_keep}
use Rattle.lent.specs.Lent.{tally_of}
use Rattle.conditions.specs.CCalls.{Memory, carried_in, Result, memory_after, CallOfC}
use Rattle.conditions.specs.Runs.{Turn, lending, asked_in, Run, end_of}
use Rattle.conditions.specs.Serving.{Seen, CallOfServe, handed, Of64Bits}
use Rattle.conditions.specs.Tallies.{added, NoneAtLargest, SetsToZero, SetsToZeroC, Tallies}
use Rattle.conditions.proofs.Carrying.{carries, handed_is, run_is}
use Rattle.conditions.proofs.CCalls.{StandsFor, carried_is, stands_after, accepted_anew, stands_anew}

module _ (k : Carried) (a : Asked) (s : Seen) (serves : CallOfServe k a s) where
  abbrev more : Tally
  more = counts_of k.head.checkpoint k.head.tip a.call

  meant_accepted : is_accepted s.reply.answer ≡ true → is_accepted (performed (lent_to k a) a.call).answer ≡ true
  meant_accepted y = sym (ap (λ (r : Reply). is_accepted r.answer) serves.0.0) ∙ y

  -- an accepted call that does not start the tally anew adds what it counts
  adds : is_accepted s.reply.answer ≡ true → resets a.call ≡ false
      → s.tally ≡ added k.tally more.committed more.rolled_back more.flushed
  adds y on =
      let answer = (performed (lent_to k a) a.call).answer in
      serves.1
      ∙ (λ i. counts
      (count_added answer a.call k.tally.committed more.committed (meant_accepted y) on i)
      (count_added answer a.call k.tally.rolled_back more.rolled_back (meant_accepted y) on i)
      (count_added answer a.call k.tally.flushed more.flushed (meant_accepted y) on i))

  zero : is_accepted s.reply.answer ≡ true → resets a.call ≡ true → s.tally ≡ counts 0 0 0
  zero y anew =
      let answer = (performed (lent_to k a) a.call).answer in
      serves.1
      ∙ (λ i. counts
      (count_anew answer a.call k.tally.committed more.committed (meant_accepted y) anew i)
      (count_anew answer a.call k.tally.rolled_back more.rolled_back (meant_accepted y) anew i)
      (count_anew answer a.call k.tally.flushed more.flushed (meant_accepted y) anew i))

  keeps : Of64Bits k.tally → resets a.call ≡ false → more ≡ counts 0 0 0 → s.tally ≡ k.tally
  keeps w on none =
      serves.1
      ∙ others_keep k.tally k.head.checkpoint k.head.tip a.call (performed (lent_to k a) a.call).answer
      w.committed w.rolled_back w.flushed on none

-- a run behind a call that set the tally to zero
module _ (k : Carried) (s : Seen) (z : SetsToZero k s) (turns : List (Turn Asked Seen))
    (run : Run CallOfServe handed (handed s) turns) where
  abbrev first : Asked
  first = lending (Reset z.call) z.words z.bytes

  abbrev asked : List Asked
  asked = asked_in turns

  zeroed : sets_to_zero k first ≡ true
  zeroed = ap (λ (b : Bool). b && true) (meant_accepted k first s z.serves z.accepted)

  start_is : next k first ≡ handed s
  start_is = sym (handed_is k first s z.serves)

  end_is : end_of CallOfServe handed (handed s) turns ≡ after (next k first) asked
  end_is = run_is turns (handed s) run ∙ ap (λ (x : Carried). after x asked) (sym start_is)

  sums : (end_of CallOfServe handed (handed s) turns).tally
      ≡ counts (min (committed_by (handed s) asked) largest) (min (rolled_back_by (handed s) asked) largest)
      (min (flushed_by (handed s) asked) largest)
  sums =
      let c = counts_are_sums k first zeroed asked in
      ap (λ (x : Carried). x.tally) end_is
      ∙ (λ i. counts (c.0 i) (c.1 i) (c.2 i))
      ∙ ap (λ (x : Carried). counts (min (committed_by x asked) largest) (min (rolled_back_by x asked) largest)
      (min (flushed_by x asked) largest))
      start_is

  balance : let end = end_of CallOfServe handed (handed s) turns in
      NoneAtLargest end.tally
      → end.tally.committed ≡ end.tally.rolled_back + end.tally.flushed + (end.head.tip - end.head.checkpoint)
  balance =
      subst (λ (end : Carried). NoneAtLargest end.tally
      → end.tally.committed ≡ end.tally.rolled_back + end.tally.flushed + (end.head.tip - end.head.checkpoint))
      (sym end_is) (λ n. tally_balances k first zeroed asked n.committed n.rolled_back n.flushed)

-- the same of C functions
module _ (m : Memory) (r : Result) (z : SetsToZeroC m r) (turns : List (Turn Asked Result))
    (run : Run CallOfC memory_after r.memory turns) where
  abbrev first_c : Asked
  first_c = lending (Reset z.call) z.words z.bytes

  abbrev asked_c : List Asked
  asked_c = asked_in turns

  abbrev start_c : Carried
  start_c = next (carried_in m) first_c

  abbrev end_c : Memory
  end_c = end_of CallOfC memory_after r.memory turns

  stands : StandsFor r.memory start_c
  stands = stands_anew m z.call z.words z.bytes r z.serves z.accepted

  stands_end : StandsFor end_c (after start_c asked_c)
  stands_end = carries CallOfC memory_after StandsFor stands_after turns r.memory start_c stands run

  zeroed_c : sets_to_zero (carried_in m) first_c ≡ true
  zeroed_c = ap (λ (b : Bool). b && true) (accepted_anew m z.call z.words z.bytes r z.serves z.accepted)

  sums_c : end_c.tally
      ≡ (min (committed_by (carried_in r.memory) asked_c) largest
      ∷ min (rolled_back_by (carried_in r.memory) asked_c) largest
      ∷ min (flushed_by (carried_in r.memory) asked_c) largest
      ∷ [])
  sums_c =
      let c = counts_are_sums (carried_in m) first_c zeroed_c asked_c in
      ap (λ (x : Memory). x.tally) stands_end.is
      ∙ (λ i. c.0 i ∷ c.1 i ∷ c.2 i ∷ [])
      ∙ ap (λ (x : Carried).
      min (committed_by x asked_c) largest ∷ min (rolled_back_by x asked_c) largest ∷ min (flushed_by x asked_c) largest ∷ [])
      (sym (carried_is r.memory start_c stands))

  balance_c : NoneAtLargest (tally_of end_c.tally)
      → get_or end_c.tally 0 0 ≡ get_or end_c.tally 1 0 + get_or end_c.tally 2 0 + (get_or end_c.head 3 0 - get_or end_c.head 2 0)
  balance_c =
      subst (λ (end : Memory). NoneAtLargest (tally_of end.tally)
      → get_or end.tally 0 0 ≡ get_or end.tally 1 0 + get_or end.tally 2 0 + (get_or end.head 3 0 - get_or end.head 2 0))
      (sym stands_end.is)
      (λ n. tally_balances (carried_in m) first_c zeroed_c asked_c n.committed n.rolled_back n.flushed)

pub tallies : Tallies
tallies = record {
  commit_adds = λ k words bytes s p y. adds k (lending (Step Commit) words bytes) s p y refl;
  rollback_adds = λ k state words bytes s p y. adds k (lending (Step (RollBack state)) words bytes) s p y refl;
  flush_adds = λ k state words bytes s p y. adds k (lending (Step (Flush state)) words bytes) s p y refl;
  reads_keep = λ k call words bytes s w p. keeps k (lending (Read call) words bytes) s p w refl refl;
  queries_keep = λ k query words bytes s w p. keeps k (lending (Ask query) words bytes) s p w refl refl;
  set_to_zero = λ k s z. zero k (lending (Reset z.call) z.words z.bytes) s z.serves z.accepted refl;
  counts_are_sums = sums;
  balances = balance;
  c_counts_are_sums = sums_c;
  c_balances = balance_c;
}
