-- `writing::write` meets its contract. The loop's invariant: what is written so far and the bytes of the words that are left
-- make the header and the bytes of all words.
-- Assumes nothing.
use mathlib.Core.List.{◌++◌}
use Prim.Native.Nat.{◌+◌, ◌*◌, ◌≤◌}
use lib.ListN.{length, take, drop}
use Rattle.words.proofs.Writing.{Writing}
use Rattle.image.specs.Image.{word_bytes}
use Rattle.image.proofs.writing.write.Given as goal

abbrev pub invariant-loop-i : goal.invariant-loop-i
invariant-loop-i l =
    (l.i ≤ length l.words)
    × Writing l.out l.initial.out (6 + 8 * l.i) (word_bytes (drop l.i l.words)) (take 6 l.initial.out ++ word_bytes l.words)
