-- A read set that is brought forward a word after another.
-- Assumes nothing.
use mathlib.Core.Path.{◌≡◌, ◌∙◌, sym, ap}
use mathlib.Core.List.{List, ◌∷◌}
use Prim.Native.Nat.{ℕ, ◌+◌, ◌≤◌, ◌<◌}
use native.Mathlib.Omega.{arith}
use lib.ListN.{length, get_or, drop, set}
use Rattle.entry.specs.Word.{offer_of}
use Rattle.changes.specs.Calculus.{find}
use Rattle.changes.specs.ReadSets.{found_or, over}
use Rattle.changes.proofs.Reading.{over_at, over_end, over-length}
use Rattle.words.proofs.Writing.{Writing, start, stored, filled, word_behind}

-- the words changed so far and the change of those left make the change of all
pub record Changing (words words₀ d : List ℕ) (i : ℕ) : Type 0 where
  pub writing : Writing words words₀ i (over (drop i words₀) d) (over words₀ d)

pub changing : (words₀ d : List ℕ) → Changing words₀ words₀ d 0
changing words₀ d = record { writing = start words₀ (over words₀ d) }

module _ {words words₀ d : List ℕ} {i : ℕ} (h : Changing words words₀ d i) where
  pub changed_one : {w : ℕ} → w ≡ found_or (find (offer_of (get_or words i 0)) d) (get_or words i 0) → i < length words
      → Changing (set words i w) words₀ d (i + 1)
  changed_one {w} e l =
      let here = word_behind h.writing i (omega arith) in
      let first : w ≡ found_or (find (offer_of (get_or words₀ i 0)) d) (get_or words₀ i 0) =
      e ∙ ap (λ (v : ℕ). found_or (find (offer_of v) d) v) here in
      record {
        writing = stored h.writing
            (over_at words₀ d i (omega (arith, h.writing.same)) ∙ ap (λ (v : ℕ). v ∷ over (drop (i + 1) words₀) d) (sym first)) l;
      }

  pub changed_all : length words ≤ i → words ≡ over words₀ d
  changed_all l =
      filled h.writing (over_end words₀ d i (omega (arith, h.writing.same))) (over-length words₀ d)
