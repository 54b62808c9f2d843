-- `is_sound` meets its contract: the tests are made in the order of the definition.
-- Assumes nothing.
use mathlib.Core.Path.{◌≡◌, ◌∙◌, sym, ap, ap₂}
use borrow.Author.Tests.{eq-eqb, ne_eqb}
use lib.ListN.{length}
use native.Mathlib.Omega.{arith}
use Rattle.layout.proofs.HeadTests.{numbers_facts}
use Rattle.layout.proofs.Holds.{first_fails, first_holds, last_test}
use Rattle.layout.specs.Clauses.{is_journal}
use Rattle.soundness.specs.Sound.{is_sound}
use borrow.Author.Rules.{rules}
use Rattle.soundness.proofs.StoreRef.is_sound.Goals as goal

pub returns-then-not-is_table : goal.returns-then-not-is_table
unfolding is_sound
returns-then-not-is_table c = sym (first_fails _ _ (sym c.is_table.ensures ∙ c.if-not-is_table.true))

pub returns-then-not-numbers_fit : goal.returns-then-not-numbers_fit
unfolding is_sound
returns-then-not-numbers_fit c = sym
    (first_holds _ _ (sym c.is_table.ensures ∙ c.if-not-is_table.false)
    ∙ first_fails _ _ (sym c.numbers_fit.ensures ∙ c.if-not-numbers_fit.true))

pub held_count-held-requires : goal.held_count-held-requires
held_count-held-requires c = let args = c.args in
    omega (
      arith,
      numbers_facts args.self.head.now.oldest args.self.head.now.checkpoint args.self.head.now.tip
          (sym c.numbers_fit.ensures ∙ c.if-not-numbers_fit.false),
    )

pub is_journal-requires : goal.is_journal-requires
is_journal-requires c = let args = c.args in
    let long : length args.self.head.now.ends ≡ 64 = search rules in
    omega (
      arith,
      long,
      c.held_count-held.ensures,
      numbers_facts args.self.head.now.oldest args.self.head.now.checkpoint
          args.self.head.now.tip (sym c.numbers_fit.ensures ∙ c.if-not-numbers_fit.false),
    )

pub returns-then-not-is_journal : goal.returns-then-not-is_journal
unfolding is_sound
returns-then-not-is_journal c = let args = c.args in
    sym
    (first_holds _ _ (sym c.is_table.ensures ∙ c.if-not-is_table.false)
    ∙ first_holds _ _ (sym c.numbers_fit.ensures ∙ c.if-not-numbers_fit.false)
    ∙ first_fails _ _ (ap (is_journal args.self.journal.now args.self.head.now.ends) (sym c.held_count-held.ensures)
    ∙ sym c.is_journal.ensures ∙ c.if-not-is_journal.true))

pub returns-then-not-slots_fit : goal.returns-then-not-slots_fit
unfolding is_sound
returns-then-not-slots_fit c = let args = c.args in
    sym
    (first_holds _ _ (sym c.is_table.ensures ∙ c.if-not-is_table.false)
    ∙ first_holds _ _ (sym c.numbers_fit.ensures ∙ c.if-not-numbers_fit.false)
    ∙ first_holds _ _ (ap (is_journal args.self.journal.now args.self.head.now.ends) (sym c.held_count-held.ensures)
    ∙ sym c.is_journal.ensures ∙ c.if-not-is_journal.false)
    ∙ first_fails _ _ (sym c.slots_fit.ensures ∙ c.if-not-slots_fit.true))

pub returns-then-head-least_of : goal.returns-then-head-least_of
unfolding is_sound
returns-then-head-least_of c = let args = c.args in
    sym
    (first_holds _ _ (sym (c.is_table.ensures) ∙ c.if-not-is_table.false)
    ∙ first_holds _ _ (sym (c.numbers_fit.ensures) ∙ c.if-not-numbers_fit.false)
    ∙ first_holds _ _ (ap (is_journal args.self.journal.now args.self.head.now.ends) (sym (c.held_count-held.ensures))
    ∙ sym (c.is_journal.ensures) ∙ c.if-not-is_journal.false)
    ∙ first_holds _ _ (sym (c.slots_fit.ensures) ∙ c.if-not-slots_fit.false)
    ∙ first_fails _ _ (ne_eqb _ _ (λ e. c.if-head-least_of.true (e ∙ sym c.least_of.ensures))))

pub returns : goal.returns
unfolding is_sound
returns c = let args = c.args in
    c.depth_fits.ensures
    ∙ sym
    (first_holds _ _ (sym (c.is_table.ensures) ∙ c.if-not-is_table.false)
    ∙ first_holds _ _ (sym (c.numbers_fit.ensures) ∙ c.if-not-numbers_fit.false)
    ∙ first_holds _ _ (ap (is_journal args.self.journal.now args.self.head.now.ends) (sym (c.held_count-held.ensures))
    ∙ sym (c.is_journal.ensures) ∙ c.if-not-is_journal.false)
    ∙ first_holds _ _ (sym (c.slots_fit.ensures) ∙ c.if-not-slots_fit.false)
    ∙ first_holds _ _ (eq-eqb _ _ (c.if-head-least_of.false ∙ c.least_of.ensures))
    ∙ last_test _)
