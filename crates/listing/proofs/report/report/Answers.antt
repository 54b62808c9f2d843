-- `report::report` meets its contract: it renders what the definition says.
-- Assumes nothing.
use Rattle.std.proofs.Common.{◌≡◌, Ok, Err, sym, ap, ◌∙◌, length}
use borrow.Author.Tests.{lt-ltb, le-ltb}
use lib.Seq.{length-take-le}
use Rattle.listing_text.specs.Listing.{refusal_text}
use Rattle.listing.proofs.Reported.{report_long, report_refused, loaded, Rendered-as}
use Rattle.listing.proofs.report.report.Goals as goal

pub returns-then-image-gt-IMAGE_BYTES : goal.returns-then-image-gt-IMAGE_BYTES
returns-then-image-gt-IMAGE_BYTES c =
    let e = ap refusal_text c.into.ensures ∙ sym (report_long c.args.image.now c.if-image-gt-IMAGE_BYTES.true) in (
      Rendered-as e c.render_refusal.ensures.0 c.render_refusal.ensures.1,
      rw (lt-ltb 64006 (length c.args.image.now) c.if-image-gt-IMAGE_BYTES.true),
      rw (lt-ltb 64006 (length c.args.image.now) c.if-image-gt-IMAGE_BYTES.true),
    )

pub returns-in-Err : goal.returns-in-Err
returns-in-Err c =
    let short = c.if-image-gt-IMAGE_BYTES.false in
    let e = ap refusal_text c.into-in-Err.ensures
    ∙ report_refused c.args.table.now c.args.journal.now c.args.image.now c.requires.0 c.requires.1 short
    (sym c.load.ensures.answer.0 ∙ c.in-Err.is) in (
      Rendered-as e c.render_refusal-in-Err.ensures.0 c.render_refusal-in-Err.ensures.1,
      rw (le-ltb 64006 (length c.args.image.now) short) c.load.ensures.table,
      rw (le-ltb 64006 (length c.args.image.now) short) c.load.ensures.journal,
    )

pub slice_bounds-render-end : goal.slice_bounds-render-end
slice_bounds-render-end c =
    (loaded c.args.table.now c.args.journal.now c.args.image.now c.requires.0 c.requires.1 c.if-image-gt-IMAGE_BYTES.false
    (sym c.load.ensures.answer.0 ∙ c.in-Ok.is) _ c.load.ensures.head c.load.ensures.table).used_in

pub slice_bounds-render-end-in-Ok : goal.slice_bounds-render-end-in-Ok
slice_bounds-render-end-in-Ok c =
    let known = loaded c.args.table.now c.args.journal.now c.args.image.now c.requires.0 c.requires.1 c.if-image-gt-IMAGE_BYTES.false
    (sym c.load.ensures.answer.0 ∙ c.in-Ok.is) _ c.load.ensures.head c.load.ensures.table in
    sym (length-take-le c.load.new.head.used c.load.new.table known.used_in)

pub returns-in-Ok : goal.returns-in-Ok
returns-in-Ok c =
    let short = c.if-image-gt-IMAGE_BYTES.false in
    let known = loaded c.args.table.now c.args.journal.now c.args.image.now c.requires.0 c.requires.1 short
    (sym c.load.ensures.answer.0 ∙ c.in-Ok.is) _ c.load.ensures.head c.load.ensures.table in (
      Rendered-as known.text c.render.ensures.0 c.render.ensures.1,
      rw (le-ltb 64006 (length c.args.image.now) short) c.load.ensures.table,
      rw (le-ltb 64006 (length c.args.image.now) short) c.load.ensures.journal,
    )
