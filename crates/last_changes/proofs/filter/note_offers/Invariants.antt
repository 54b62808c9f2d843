-- `filter::note_offers` meets its contract: what is noted so far with the words left noted too is all noted.
-- Assumes nothing.
use mathlib.Core.Path.{◌≡◌}
use Prim.Native.Nat.{◌-◌, ◌≤◌}
use lib.ListN.{length, drop}
use Rattle.last_changes.specs.Filter.{noted}
use Rattle.last_changes.proofs.filter.note_offers.Given as goal

abbrev pub invariant-loop-word : goal.invariant-loop-word
invariant-loop-word l =
    (l.word-index ≤ length l.words) × (length l.filter ≡ 16384)
    × (noted l.filter (drop l.word-index l.words) ≡ noted l.initial.filter l.words)
