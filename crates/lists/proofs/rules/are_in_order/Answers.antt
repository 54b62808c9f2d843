-- `rules::are_in_order` meets its contract: the pairs before the next block pass.
-- Assumes nothing.
use Rattle.std.proofs.Common.{◌≡◌, ◌∙◌, ◌-◌, ◌+◌, length, get_or, arith, sym, ap, min, true, subst}
use Rattle.std.proofs.lemmas.Grind.{common_steps}
use Rattle.std.proofs.lemmas.Option.{gets}
use Rattle.lists.proofs.InOrder.{first_passes}
use Rattle.lists.specs.Pairs.{are_pairs}
use Rattle.lists.proofs.Pairs.{pairs_none}
use Rattle.lists.proofs.Scans.{block_passes, block_fails}
use Rattle.lists.proofs.rules.are_in_order.Goals as goal

pub returns-then-words : goal.returns-then-words
returns-then-words g c =
    let words = c.args.words.now in
    let first : get_or words 0 0 ≡ c.in-Some.first.now = grind (arith, common_steps, gets) in
    let passes : g.R.Rule.passes (get_or words 0 0) ≡ true = ap g.R.Rule.passes first ∙ sym c.is_passed.ensures
    ∙ c.if-not-is_passed.false in
    c.few_follow.ensures passes ∙ sym (first_passes g.met.R.Rule.laws words (grind (arith, common_steps, gets)) passes)

pub loop-start-init : goal.loop-start-init
loop-start-init g c =
    let words = c.args.words.now in
    let first : get_or words 0 0 ≡ c.in-Some.first.now = grind (arith, common_steps, gets) in
    let none : min 0 (length words - 1) ≡ 0 = omega arith in
    record {
      words = omega arith;
      first = ap g.R.Rule.passes first ∙ sym c.is_passed.ensures ∙ c.if-not-is_passed.false;
      passed = rw none (pairs_none g.R.Rule.passes words 0);
    }

pub returns-then-flag_bit-eq0 : goal.returns-then-flag_bit-eq0
returns-then-flag_bit-eq0 g c =
    let v = c.loop-start.invariant in
    sym (first_passes g.met.R.Rule.laws c.args.words.now (omega arith) v.first
    ∙ block_fails g.R.Rule.passes c.args.words.now v.first v.passed c.min-from.result g.row.BLOCK c.block_follows.result
    (omega arith) (omega arith)
    c.block_follows.ensures (omega arith))

pub loop-start-preserved : goal.loop-start-preserved
loop-start-preserved g c =
    let words = c.args.words.now in
    let v = c.loop-start.invariant in
    let next : c.min-from.result + g.row.BLOCK ≡ min (c.loop-start.start + g.row.BLOCK) (length words - 1) = omega arith in
    record {
      words = v.words;
      first = v.first;
      passed = subst (λ n. are_pairs g.R.Rule.passes words 0 n ≡ true) next
          (block_passes g.R.Rule.passes c.args.words.now v.first v.passed c.min-from.result g.row.BLOCK
          c.block_follows.result (omega arith) (omega arith)
          c.block_follows.ensures (λ z. omega arith));
    }

pub returns-else-words : goal.returns-else-words
returns-else-words g c =
    let words = c.args.words.now in
    let all : min c.loop-start.start (length words - 1) ≡ length words - 1 = omega arith in
    sym (rw all at c.loop-start.invariant.passed)
    ∙ sym (first_passes g.met.R.Rule.laws words (omega arith) c.loop-start.invariant.first)

pub returns-else-flag_bit-eq0 : goal.returns-else-flag_bit-eq0
returns-else-flag_bit-eq0 g c =
    let words = c.args.words.now in
    let v = c.loop-start.invariant in
    let next : c.min-from.result + g.row.BLOCK ≡ length words - 1 = omega arith in
    sym (subst (λ n. are_pairs g.R.Rule.passes words 0 n ≡ true) next
    (block_passes g.R.Rule.passes c.args.words.now v.first v.passed c.min-from.result g.row.BLOCK c.block_follows.result
    (omega arith) (omega arith)
    c.block_follows.ensures (λ z. omega arith)))
    ∙ sym (first_passes g.met.R.Rule.laws words (omega arith) v.first)
