-- `trim::trim` meets its contract.
-- Assumes nothing.
use mathlib.Core.Path.{ap, ap₂, ◌∙◌}
use Prim.Native.Nat.{ℕ}
use native.Mathlib.Omega.{arith}
use Rattle.changes.specs.Runs.{start_of}
use Rattle.views.specs.Trim.{moved_ends}
use Rattle.views.proofs.Moving.{marks_above, head_trimmed, journal_trimmed}
use Rattle.views.proofs.trim.trim.Goals as goal

pub move_ends-requires : goal.move_ends-requires
move_ends-requires c = let args = c.args in
    let gone = c.step_index-gone.ensures in
    let held = c.held_count.ensures in
    let words = c.end_of-words.ensures ∙ ap (start_of args.head.ends) gone in (
      omega (arith, c.requires.high, c.least_of-oldest.ensures, gone, held),
      omega (arith, c.requires.few, held),
      λ i a b. omega (
        arith,
        marks_above c.requires c.least_of-oldest.result c.least_of-oldest.ensures i
            (omega (arith, gone)) (omega (arith, held)),
        words,
      ),
    )

pub returns : goal.returns
returns c = let args = c.args in
    let words = c.end_of-words.ensures ∙ ap (start_of args.head.ends) c.step_index-gone.ensures in
    let marks =
    c.move_ends.ensures ∙ ap₂ (λ (from to : ℕ). moved_ends args.head.ends from to c.end_of-words.result)
    c.step_index-gone.ensures c.held_count.ensures in (
      head_trimmed c.requires c.least_of-oldest.result c.least_of-oldest.ensures c.end_of-words.result c.move_ends.result words marks,
      journal_trimmed c.requires c.least_of-oldest.result c.least_of-oldest.ensures c.end_of-words.result
          c.shift.new.words c.clear.new.words words c.shift.ensures c.clear.ensures,
    )
