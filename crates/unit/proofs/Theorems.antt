-- The tally's equation (document 01, "What the unit holds"): "After any calls since then, each lent the tally, memory and head as the
-- call before left them, with no count at its largest, committed = rolled back + flushed + (tip − anchor), each defined from the
-- accepted calls." Document 01's anchor is the checkpoint. Nothing is asked of what is lent to the first call.
-- Assumes nothing.
use mathlib.Core.Path.{◌≡◌, refl, sym, ◌∙◌}
use mathlib.Core.Bool.{true, false}
use mathlib.Core.List.{List, []}
use Prim.Native.Nat.{ℕ, ◌+◌, ◌-◌, ◌≤◌, min}
use Rattle.answers.specs.Check.{Answered}
use Rattle.answers.specs.declared.call.Call.{Call}
use Rattle.answers.specs.declared.tally.Tally.{Tally}
use Rattle.answers.specs.Answers.{is_accepted}
use Rattle.answers.specs.Counts.{largest, resets, counts, counts_of, tally_after}
use Rattle.answers.proofs.Counting.{count_kept}
use Rattle.unit.specs.Carried.{Carried, Asked, next, after, sets_to_zero, committed_by, rolled_back_by, flushed_by}
use Rattle.unit.proofs.Balance.{Balanced, Kept-after, starts, exact}

-- An accepted clear, load or restart, and then any calls: refused ones, and more clears, loads and restarts, among them.
module _ (lent : Carried) (first : Asked) (zeroed : sets_to_zero lent first ≡ true) (asked : List Asked) where
  abbrev start : Carried
  start = next lent first

  abbrev end : Carried
  end = after start asked

  kept : Balanced (committed_by start asked) (rolled_back_by start asked) (flushed_by start asked) end.tally end.head
  kept = Kept-after [] start asked (starts lent first zeroed)

  -- "a count stops at its largest value": each is the sum over the accepted calls, or its largest value where the sum is more
  pub counts_are_sums :
      (end.tally.committed ≡ min (committed_by start asked) largest)
      × (end.tally.rolled_back ≡ min (rolled_back_by start asked) largest)
      × (end.tally.flushed ≡ min (flushed_by start asked) largest)
  counts_are_sums = (kept.committed, kept.rolled_back, kept.flushed)

  pub in_order : end.head.checkpoint ≤ end.head.tip
  in_order = kept.order

  pub sums_balance : committed_by start asked ≡ rolled_back_by start asked + flushed_by start asked + (end.head.tip - end.head.checkpoint)
  sums_balance = kept.balance

  -- "with no count at its largest"
  pub tally_balances :
      (end.tally.committed ≡ largest → ⊥) → (end.tally.rolled_back ≡ largest → ⊥) → (end.tally.flushed ≡ largest → ⊥)
      → end.tally.committed ≡ end.tally.rolled_back + end.tally.flushed + (end.head.tip - end.head.checkpoint)
  tally_balances c r f =
      let ec = exact (committed_by start asked) end.tally.committed kept.committed c in
      let er = exact (rolled_back_by start asked) end.tally.rolled_back kept.rolled_back r in
      let ef = exact (flushed_by start asked) end.tally.flushed kept.flushed f in
      ec ∙ sums_balance ∙ (λ i. sym er i + sym ef i + (end.head.tip - end.head.checkpoint))

-- "everything lent and the head keep their values" where a call is turned away: the tally too
pub refused_keeps : (tally : Tally) (checkpoint tip : ℕ) (call : Call) (answer : Answered) → is_accepted answer ≡ false
    → tally_after tally checkpoint tip call answer ≡ tally
refused_keeps tally checkpoint tip call answer e = rw e refl

-- a call that commits, rolls back and flushes nothing, and does not start the tally anew, leaves counts of 64 bits as they came
pub others_keep : (tally : Tally) (checkpoint tip : ℕ) (call : Call) (answer : Answered)
    → tally.committed ≤ largest → tally.rolled_back ≤ largest → tally.flushed ≤ largest
    → resets call ≡ false → counts_of checkpoint tip call ≡ counts 0 0 0 → tally_after tally checkpoint tip call answer ≡ tally
others_keep tally checkpoint tip call answer hc hr hf on none =
    let c = count_kept (is_accepted answer) (resets call) tally.committed on hc in
    let r = count_kept (is_accepted answer) (resets call) tally.rolled_back on hr in
    let f = count_kept (is_accepted answer) (resets call) tally.flushed on hf in
    rw none (λ i. counts (c i) (r i) (f i))
