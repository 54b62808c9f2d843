-- `listing::render` meets its contract: the lines are put one behind another.
-- Assumes nothing.
use Rattle.std.proofs.Common.{◌≡◌, ◌∙◌, arith, rules, ap, length, take, take_all, get_or}
use Rattle.listing_text.specs.Listing.{lines_of, text_of}
use Rattle.listing_text.proofs.Lines.{header_length, line_length, lines_more}
use Rattle.listing_text.proofs.Pieces.{both, put_as, whole, nothing}
use Rattle.listing_text.proofs.listing.render.Goals as goal

pub loop-word-init : goal.loop-word-init
unfolding lines_of
loop-word-init c = (omega arith, nothing (omega arith))

pub put_line-requires : goal.put_line-requires
put_line-requires c =
    let first = c.put_header.ensures in
    let h = header_length c.args.state (length c.args.words.now) (omega arith) (omega arith) in
    omega
    (arith, h, first.stored.position, first.size, c.loop-word.invariant.1.size, c.new-text.ensures.end, ap length c.new-text.ensures.bytes)

pub loop-word-preserved : goal.loop-word-preserved
loop-word-preserved c =
    let w = get_or c.args.words.now c.loop-word.word-index 0 in (
      omega (arith, line_length w),
      put_as (lines_more c.args.words.now c.loop-word.word-index c.loop-word-test.true) (both c.loop-word.invariant.1 c.put_line.ensures),
    )

pub returns : goal.returns
unfolding text_of
returns c =
    let all : take c.loop-word.word-index c.args.words.now ≡ c.args.words.now = take_all _ _ (omega arith) in
    let lines = both c.put_header.ensures (put_as (ap lines_of all) c.loop-word.invariant.1) in
    let w = whole c.new-text.ensures.end c.new-text.ensures.bytes lines in
    (c.end.ensures ∙ w.0, search (rules, c.end.ensures, w.1, lines.lent))
