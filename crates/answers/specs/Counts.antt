-- "The tally has three counts of 64 bits: steps committed, rolled back, flushed. The tally line is lent by the caller and updated by
-- the call; a count stops at its largest value. Clear, load and restart set it to zero."
-- Assumes nothing.
use Rattle.std.specs.Prelude.{Bool, true, false, cond, ℕ, ◌+◌, ◌-◌, min}
use Rattle.answers.specs.Check.{Answered}
use Rattle.answers.specs.declared.call.Call.{Call}
use Rattle.answers.specs.declared.call.Call.TheVariants.{Reset, Step, Read, Ask}
use Rattle.answers.specs.declared.call.Step.{Step as StepCall}
use Rattle.answers.specs.declared.call.Step.TheVariants.{Commit, RollBack, Flush}
use Rattle.answers.specs.declared.tally.Tally.{Tally}
use Rattle.answers.specs.Answers.{is_accepted}

-- 2^64 - 1
abbrev pub largest : ℕ
largest = 18446744073709551615

-- "Clear, load and restart set it to zero."
abbrev pub resets : Call → Bool
resets (Reset reset) = true
resets (Step step) = false
resets (Read read) = false
resets (Ask query) = false

abbrev pub counts : ℕ → ℕ → ℕ → Tally
counts committed rolledBack flushed = record { committed = committed; rolled_back = rolledBack; flushed = flushed }

-- the steps that an accepted call commits, rolls back and flushes, from the call, and the checkpoint and tip before it
abbrev pub step_counts : ℕ → ℕ → StepCall → Tally
step_counts checkpoint tip Commit = counts 1 0 0
step_counts checkpoint tip (RollBack state) = counts 0 (tip - state) 0
step_counts checkpoint tip (Flush state) = counts 0 0 (state - checkpoint)

abbrev pub counts_of : ℕ → ℕ → Call → Tally
counts_of checkpoint tip (Reset reset) = counts 0 0 0
counts_of checkpoint tip (Step step) = step_counts checkpoint tip step
counts_of checkpoint tip (Read read) = counts 0 0 0
counts_of checkpoint tip (Ask query) = counts 0 0 0

-- a count after a call that adds so many steps to it: "a count stops at its largest value", and a refused call leaves it as it came
abbrev pub count_after : Answered → Call → ℕ → ℕ → ℕ
count_after answer call count more = cond (is_accepted answer) (cond (resets call) 0 (min (count + more) largest)) count

abbrev pub tally_after : Tally → ℕ → ℕ → Call → Answered → Tally
tally_after tally checkpoint tip call answer =
    let more = counts_of checkpoint tip call in
    counts
    (count_after answer call tally.committed more.committed)
    (count_after answer call tally.rolled_back more.rolled_back)
    (count_after answer call tally.flushed more.flushed)
