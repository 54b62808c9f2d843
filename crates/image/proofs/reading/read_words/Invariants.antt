-- `reading::read_words` meets its contract: what is written so far and the words that are left make the words.
-- Assumes nothing.
use Prim.Native.Nat.{◌+◌, ◌-◌, ◌*◌, ◌≤◌}
use lib.ListN.{drop}
use Rattle.words.proofs.Writing.{Writing}
use Rattle.image.specs.Image.{words_of, count_in, words_in}
use Rattle.image.proofs.reading.read_words.Given as goal

abbrev pub invariant-loop-i : goal.invariant-loop-i
invariant-loop-i l =
    (l.i ≤ count_in l.bytes) × Writing l.word-items l.initial.word-items l.i
    (words_of (count_in l.bytes - l.i) (drop (6 + 8 * l.i) l.bytes)) (words_in l.bytes)
