-- Rising words of one row: the sum of their bits fits a mask, and as many of its bits precede a word's as words do, so that the k-th word's
-- price has place k.
-- Assumes nothing.
use mathlib.Core.Path.{◌≡◌, sym, ap, subst, ◌∙◌}
use mathlib.Core.List.{List, [], ◌∷◌, ◌++◌}
use Prim.Native.Nat.{ℕ, zero, suc, ◌+◌, ◌-◌, ◌*◌, ◌/◌, ◌%◌, ◌^◌, ◌≤◌, ◌<◌}
use native.Mathlib.Nat.{add-zero}
use native.Mathlib.Omega.{arith}
use lib.Count.{ones}
use lib.ListN.{length, take, get_or}
use lib.Pow.{pow_pos, pow_mono}
use lib.Seq.{take-suc}
use Rattle.entry.specs.Word.{offer_of}
use Rattle.changes.specs.Lists.{From, All}
use Rattle.changes.proofs.Each.{all_at}
use Rattle.changes.proofs.Find.{least_at}
use Rattle.sheet.specs.Runs.{InRow, bits_of}
use Rattle.sheet.specs.Sheet.{seat_bit, place_in}
use Rattle.sheet.proofs.Bits.{none_set, place_ones}
use Rattle.sheet.proofs.MaskBits.{front_small, none_above, place_more}

bits_append : (a b : List ℕ) → bits_of (a ++ b) ≡ bits_of a + bits_of b
unfolding bits_of
bits_append [] b = omega arith
bits_append (w ∷ a) b = omega (arith, bits_append a b)

-- one word more
bits_one : (w : ℕ) → bits_of (w ∷ []) ≡ seat_bit (offer_of w)
unfolding bits_of
bits_one w = add-zero (seat_bit (offer_of w))

pub bits_next : (l : List ℕ) (k : ℕ) → k < length l → bits_of (take (k + 1) l) ≡ bits_of (take k l) + seat_bit (offer_of (get_or l k 0))
bits_next l k h =
    let one : k + 1 ≡ suc k = omega arith in
    ap (λ (n : ℕ). bits_of (take n l)) one
    ∙ ap bits_of (take-suc l k 0 h)
    ∙ bits_append (take k l) (get_or l k 0 ∷ [])
    ∙ ap (λ (n : ℕ). bits_of (take k l) + n) (bits_one (get_or l k 0))

-- words of row n
module _ (n : ℕ) where
  -- the bits of words from seat `first` on are below the bit before it
  bits_below : (first : ℕ) (l : List ℕ) → first ≤ 32 → From (n * 32 + first) l → All (InRow n) l → bits_of l < 2 ^ (32 - first)
  unfolding From All bits_of
  bits_below first [] s f a = pow_pos (32 - first)
  bits_below first (w ∷ l) s f a =
      let seat : n * 32 + offer_of w % 32 ≡ offer_of w = omega (arith, a.0) in
      let on : n * 32 + (offer_of w % 32 + 1) ≡ offer_of w + 1 = omega arith in
      let left : 32 - (offer_of w % 32 + 1) ≡ 31 - offer_of w % 32 = omega arith in
      let rest = bits_below (offer_of w % 32 + 1) l (omega arith) (subst (λ (k : ℕ). From k l) (sym on) f.1) a.1 in
      let small : bits_of l < 2 ^ (31 - offer_of w % 32) = subst (λ (k : ℕ). bits_of l < 2 ^ k) left rest in
      let within : suc (31 - offer_of w % 32) ≤ 32 - first = omega (arith, f.0, seat) in
      omega (arith, front_small (31 - offer_of w % 32) (bits_of l) small, pow_mono {i = suc (31 - offer_of w % 32)} {j = 32 - first} within)

  row_start : (l : List ℕ) → From 0 l → All (InRow n) l → From (n * 32 + 0) l
  unfolding From All
  row_start [] f a = tt
  row_start (w ∷ l) f a = (omega (arith, a.0), f.1)

  -- the bits fit a mask
  pub bits_fit : (l : List ℕ) → From 0 l → All (InRow n) l → bits_of l < 2 ^ 32
  bits_fit l f a = bits_below 0 l (omega arith) (row_start l f a) a

  -- as many bits precede a word's as words precede it
  ones_before_word : (first : ℕ) (l : List ℕ) (k : ℕ) → first ≤ 32 → From (n * 32 + first) l → All (InRow n) l → k < length l
      → ones (bits_of l / 2 ^ (32 - offer_of (get_or l k 0) % 32)) ≡ k
  unfolding From All bits_of
  ones_before_word first [] k s f a h = absurd (omega arith)
  ones_before_word first (w ∷ l) zero s f a h =
      let seat : n * 32 + offer_of w % 32 ≡ offer_of w = omega (arith, a.0) in
      let small = bits_below (offer_of w % 32) (w ∷ l) (omega arith) (omega arith, f.1) a in
      ap ones (none_above (bits_of (w ∷ l)) (32 - offer_of w % 32) (32 - offer_of w % 32) small (omega arith)) ∙ none_set
  ones_before_word first (w ∷ l) (suc k) s f a h =
      let seat : n * 32 + offer_of w % 32 ≡ offer_of w = omega (arith, a.0) in
      let on : n * 32 + (offer_of w % 32 + 1) ≡ offer_of w + 1 = omega arith in
      let left : 32 - (offer_of w % 32 + 1) ≡ 31 - offer_of w % 32 = omega arith in
      let behind = subst (λ (k : ℕ). From k l) (sym on) f.1 in
      let rest = bits_below (offer_of w % 32 + 1) l (omega arith) behind a.1 in
      let small : bits_of l < 2 ^ (31 - offer_of w % 32) = subst (λ (k : ℕ). bits_of l < 2 ^ k) left rest in
      let row = all_at (InRow n) l 0 k a.1 (omega arith) in
      let above = least_at (offer_of w + 1) l f.1 k (omega arith) in
      let lower : 32 - offer_of (get_or l k 0) % 32 ≤ 31 - offer_of w % 32 = omega (arith, row, above) in
      place_more (bits_of l) (31 - offer_of w % 32) small (32 - offer_of (get_or l k 0) % 32) lower
      ∙ ap suc (ones_before_word (offer_of w % 32 + 1) l k (omega arith) behind a.1 (omega arith))

  -- the price of a row's k-th word has place k
  pub place_of_word : (l : List ℕ) (k : ℕ) → From 0 l → All (InRow n) l → k < length l
      → place_in (bits_of l) (offer_of (get_or l k 0) % 32) ≡ k
  place_of_word l k f a h =
      place_ones (bits_of l) (offer_of (get_or l k 0) % 32) (bits_fit l f a)
      ∙ ones_before_word 0 l k (omega arith) (row_start l f a) a h
