-- `head_words::put` meets its contract: the fields so far stand in the words.
-- Assumes nothing.
use mathlib.Core.Path.{sym, ◌∙◌}
use lib.ListN.{length, length-set}
use Prim.Native.Nat.{◌<◌}
use native.Mathlib.Omega.{arith}
use Rattle.std.proofs.lemmas.List.{take_more, take_more_set}
use Rattle.std.proofs.lemmas.Slice.Zip.{all_zipped_more}
use Rattle.head_words.proofs.put.Goals as goal

pub loop-k-preserved : goal.loop-k-preserved
loop-k-preserved g c =
    let h = c.loop-k.invariant in
    let k = c.loop-k.k in
    let here : k < length c.loop-k.words = omega arith in (
      h.0 ∙ sym (length-set c.loop-k.words k c.into.result),
      rw (
        take_more c.args.fields.now k c.index-fields-k.result c.loop-k-test.true,
        take_more_set c.loop-k.words k
            c.into.result here,
        ← c.index-fields-k.is,
      )
          (all_zipped_more _ _ _ _ _ h.1 c.into.ensures),
    )
