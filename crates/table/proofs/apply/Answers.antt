-- `table::apply` meets its contract: what is written so far and the map after the changes that are left make the map.
-- Assumes nothing.
use Rattle.std.proofs.Common.{◌∙◌, sym, arith, get_or, eqb-true}
use Rattle.std.proofs.lemmas.Bool.{eqb-false}
use Rattle.entry.specs.Word.{kind_of}
use Rattle.table.proofs.Applying.{there, kept, Put-change, removed_change, left}
use Rattle.words.proofs.Writing.{copied_size, copied}
use Rattle.table.proofs.apply.Goals as goal
use Rattle.table.proofs.apply.Goals.{then-is_put, else-is_put}

pub bounds-map-i : goal.bounds-map-i
bounds-map-i c = (there c.loop-out.invariant.1 c.loop-change-test.true c.is_below.ensures c.loop-out-test.true).0

pub loop-out-smaller : goal.loop-out-smaller
loop-out-smaller c = omega (arith, (there c.loop-out.invariant.1 c.loop-change-test.true c.is_below.ensures c.loop-out-test.true).0)

pub loop-out-preserved : goal.loop-out-preserved
loop-out-preserved c =
    (c.loop-out.invariant.0, kept c.loop-out.invariant.1 c.loop-change-test.true c.is_below.ensures c.loop-out-test.true)

pub loop-change-preserved : goal.loop-change-preserved
loop-change-preserved c =
    let kind = kind_of (get_or c.args.changes.now c.loop-change.change-index 0) in
    elim c.if-is_put.branch [
      | then-is_put w ↦ rw (w.out-is, w.k-is) (Put-change c.loop-out.invariant.1 c.loop-change-test.true c.is_below.ensures
          c.loop-out-test.false c.found_at.ensures (λ z. rw z at c.from-i.ensures) (λ z. rw z at c.from-i.ensures)
          (eqb-true kind 1 (sym c.is_put.ensures ∙ w.if-is_put.true)))
      | else-is_put w ↦ rw (w.out-is, w.k-is) (removed_change c.loop-out.invariant.1 c.loop-change-test.true c.is_below.ensures
          c.loop-out-test.false c.found_at.ensures (λ z. rw z at c.from-i.ensures) (λ z. rw z at c.from-i.ensures)
          (eqb-false kind 1 (sym c.is_put.ensures ∙ w.if-is_put.false)))
    ]

pub returns : goal.returns
returns c =
    let map = c.args.map.now in
    let v = c.loop-change.invariant in
    let rest = left v c.loop-change-test.false in
    (copied_size v.writing map c.loop-change.i rest, copied v.writing map c.loop-change.i rest c.copy.new.target c.copy.ensures)
