-- `streams::read_full` meets its contract: a read into the rest of the bytes goes on where those before it ended.
-- Assumes nothing.
use Rattle.std.proofs.Common.{◌≡◌, ℕ, ◌+◌, ◌≤◌, List, ◌++◌, rules, length, take, sym, ap, ap₂, ◌∙◌, subst, drop_at, take_at, length-take-le}
use Rattle.std.specs.Io.KnownBytes.{Consumes}
use Rattle.std.proofs.KnownBytes.{Consumes-trans}
use borrow.Rule.Slice.PartMut.{put_mid, post_of}
use lib.Seq.{take-add, take-append-le}
use Rattle.listing.proofs.streams.read_full.Goals as goal

-- the front of what a part was written into: what stood before the part, and the front of the part
take_put : (a k n : ℕ) (xs ys : List ℕ) → a ≤ length xs → n ≤ length ys → take a xs ++ take n ys ≡ take (a + n) (put_mid a k xs ys)
take_put a k n xs ys within fits =
    let size = length-take-le a xs within in
    let behind : List ℕ = ys ++ post_of a k xs in
    sym
    (take-add a n (take a xs ++ behind)
    ∙ ap₂ (λ (x y : List ℕ). x ++ take n y) (take_at (take a xs) behind a size) (drop_at (take a xs) behind a size)
    ∙ ap (λ (y : List ℕ). take a xs ++ y) (take-append-le n ys (post_of a k xs) fits))

pub loop-done-preserved : goal.loop-done-preserved
loop-done-preserved g c =
    let from = c.loop-done.done in
    let part = take_put from _ c.in-Ok.got c.loop-done.bytes c.read.new.buf c.loop-done.invariant.1 (search rules) in (
      search rules,
      search rules,
      subst (Consumes _ _) part (Consumes-trans _ _ _ _ _ c.loop-done.invariant.2 c.in-Ok.ensures.bytes.0),
    )
