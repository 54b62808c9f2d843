-- `reading::read_words` meets its contract: what is written so far and the words that are left make the words.
-- Assumes nothing.
use mathlib.Core.Path.{ap, sym}
use mathlib.Core.List.{List, ◌++◌}
use Prim.Native.Nat.{ℕ, ◌<◌}
use lib.ListN.{drop}
use lib.Seq.{length-take-le}
use Rattle.words.proofs.Writing.{start, stored, unwritten, filled}
use Rattle.image.specs.Image.{count_in}
use Rattle.image.proofs.Words.{words_next, words_end, words_all, words_in-length}
use native.Mathlib.Omega.{arith}
use Rattle.image.proofs.reading.read_words.Goals as goal

pub loop-i-init : goal.loop-i-init
loop-i-init c = (omega arith, unwritten (start _ _) (sym (words_all c.args.bytes.now)))

pub loop-i-preserved : goal.loop-i-preserved
loop-i-preserved c =
    let bytes = c.args.bytes.now in
    let room = length-take-le c.count_of-count.result c.args.table.now (omega arith) in
    let here : c.loop-i.i < count_in bytes = omega (arith, room, c.loop-i.invariant.1.same) in (
      omega arith,
      rw c.word_at.ensures
          (stored c.loop-i.invariant.1 (words_next (count_in bytes) bytes c.loop-i.i here) (omega arith)),
    )

pub returns : goal.returns
returns c =
    let bytes = c.args.bytes.now in
    let room = length-take-le c.count_of-count.result c.args.table.now (omega arith) in
    rw c.count_of-count.ensures.0 (ap (λ (l : List ℕ). l ++ drop (count_in bytes) c.args.table.now)
    (filled c.loop-i.invariant.1
    (words_end (count_in bytes) bytes c.loop-i.i (omega (arith, room, c.loop-i.invariant.1.same)))
    (omega (arith, room, words_in-length bytes))))
