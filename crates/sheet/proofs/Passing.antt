-- The words of the first row as a pass over rising words finds them.
-- Assumes nothing.
use mathlib.Core.Path.{◌≡◌, refl, sym, ap, ap₂, ◌∙◌}
use mathlib.Core.Logic.{◌≢◌}
use mathlib.Core.Bool.{true, false}
use mathlib.Core.List.{List, [], ◌∷◌, ◌++◌}
use Prim.Native.Nat.{ℕ, zero, suc, ◌+◌, ◌%◌, ◌^◌, ◌≤◌, ◌<◌}
use native.Mathlib.Omega.{arith}
use borrow.Author.Tests.{ltb-true, eqb-true, eqb-false, lt-ltb}
use lib.Dec.{eqb, ltb}
use lib.ListN.{length, take, drop, get_or}
use lib.Seq.{length-take-le, take-suc, get_or-take}
use Rattle.entry.specs.Word.{offer_of}
use Rattle.changes.specs.Lists.{From, All}
use Rattle.changes.proofs.Each.{all_more}
use Rattle.changes.proofs.ListTest.{and_both}
use Rattle.sheet.specs.Runs.{InRow, is_of_row, row_number, bits_of}
use Rattle.sheet.specs.Sheet.{row_of, seat_bit, place_in}
use Rattle.sheet.proofs.RunBits.{bits_next, bits_fit, place_of_word}

-- a part of rising words rises
From-take : (k n : ℕ) (l : List ℕ) → From n l → From n (take k l)
unfolding From
From-take zero n l h = tt
From-take (suc k) n [] h = tt
From-take (suc k) n (w ∷ l) h = (h.0, From-take k (offer_of w + 1) l h.1)

pub From-drop : (k n : ℕ) (l : List ℕ) → From n l → From 0 (drop k l)
unfolding From
From-drop zero n [] h = tt
From-drop zero n (w ∷ l) h = (omega arith, h.1)
From-drop (suc k) n [] h = tt
From-drop (suc k) n (w ∷ l) h = From-drop k (offer_of w + 1) l h.1

-- the word at a position is of the row, or of another one
module _ (words : List ℕ) (i row : ℕ) where
  pub of_row : is_of_row words i row ≡ true → (i < length words) × InRow row (get_or words i 0)
  of_row e =
      let both = and_both (ltb i (length words)) (eqb (row_of (offer_of (get_or words i 0))) row) e in
      (ltb-true i (length words) both.0, eqb-true (row_of (offer_of (get_or words i 0))) row both.1)

  pub of_other : is_of_row words i row ≡ false → i < length words → row_of (offer_of (get_or words i 0)) ≢ row
  of_other e h = eqb-false (row_of (offer_of (get_or words i 0))) row (rw (lt-ltb i (length words) h) at e)

-- the first `count` words are of the first word's row, and the mask is the sum of their bits
pub record Passed (words : List ℕ) (mask count : ℕ) : Type 0 where
  pub within : count ≤ length words
  pub same : All (InRow (row_number words)) (take count words)
  pub bits : mask ≡ bits_of (take count words)

pub none_passed : (words : List ℕ) → Passed words 0 0
unfolding All bits_of
none_passed words = record { within = omega arith; same = tt; bits = refl }

module _ {words : List ℕ} {mask count : ℕ} (p : Passed words mask count) where
  -- one word more, of the same row
  module _ (h : count < length words) (row : InRow (row_number words) (get_or words count 0)) where
    taken : take (count + 1) words ≡ take count words ++ (get_or words count 0 ∷ [])
    taken =
        let one : count + 1 ≡ suc count = omega arith in
        ap (λ (n : ℕ). take n words) one ∙ take-suc words count 0 h

    pub one_Passed : (bit : ℕ) → bit ≡ seat_bit (offer_of (get_or words count 0)) → Passed words (mask + bit) (count + 1)
    one_Passed bit b =
        record {
          within = omega arith;
          same = rw taken (all_more (InRow (row_number words)) (take count words) (get_or words count 0) p.same row);
          bits = ap₂ ◌+◌ p.bits b ∙ sym (bits_next words count h);
        }

  -- the sum fits a mask
  pub passed_fits : From 0 words → mask < 2 ^ 32
  passed_fits f =
      let fits = bits_fit (row_number words) (take count words) (From-take count 0 words f) p.same in
      omega (arith, fits, p.bits)

  -- the price of a word that is passed has the place that the word has
  pub passed_place : From 0 words → (k : ℕ) → k < count → place_in mask (offer_of (get_or words k 0) % 32) ≡ k
  passed_place f k h =
      ap₂ (λ (m w : ℕ). place_in m (offer_of w % 32)) p.bits (sym (get_or-take count words k 0 h))
      ∙ place_of_word (row_number words) (take count words) k (From-take count 0 words f) p.same
      (omega (arith, length-take-le count words p.within))
