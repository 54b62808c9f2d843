-- Tests of words in turn with rising offers, and the test of their neighbours: they decide alike where the first word passes.
-- Assumes nothing.
use mathlib.Core.Path.{◌≡◌, ◌∙◌, sym, ap}
use mathlib.Core.Bool.{Bool, true, ◌&&◌}
use mathlib.Core.List.{List}
use Prim.Native.Nat.{ℕ, zero, suc, ◌+◌, ◌-◌, ◌<◌}
use native.Mathlib.Numerals.{add-one}
use native.Mathlib.Omega.{arith}
use borrow.Author.Tests.{le-leb}
use lib.Dec.{leb}
use lib.ListN.{length, get_or, drop, drop_of_length-le}
use Rattle.entry.specs.Word.{offer_of}
use Rattle.words.proofs.Parts.{next}
use Rattle.lists.specs.InOrder.{InOrder}
use Rattle.lists.specs.Pairs.{is_pair, are_pairs}
use Rattle.lists.proofs.Pairs.{pairs_none, pairs_next}

module _ {in_order : ℕ → List ℕ → Bool} {passes : ℕ → Bool} (t : InOrder in_order passes) (l : List ℕ) where
  -- the words behind a position: first the next, then the others
  behind : (n i : ℕ) → i + 1 + n ≡ length l → in_order (offer_of (get_or l i 0) + 1) (drop (i + 1) l) ≡ are_pairs passes l i n
  behind zero i e =
      ap (in_order (offer_of (get_or l i 0) + 1)) (drop_of_length-le l {i = i + 1} (omega arith))
      ∙ t.none (offer_of (get_or l i 0) + 1) ∙ sym (pairs_none passes l i)
  behind (suc n) i e =
      ap (in_order (offer_of (get_or l i 0) + 1)) (next l (i + 1) (omega arith))
      ∙ t.first (offer_of (get_or l i 0) + 1) (get_or l (i + 1) 0) (drop (i + 1 + 1) l)
      ∙ ap (λ (n : ℕ). passes (get_or l (i + 1) 0) && leb n (offer_of (get_or l (i + 1) 0))
      && in_order (offer_of (get_or l (i + 1) 0) + 1) (drop (i + 1 + 1) l)) (add-one (offer_of (get_or l i 0)))
      ∙ ap (λ (b : Bool). is_pair passes (get_or l i 0) (get_or l (i + 1) 0) && b) (behind n (i + 1) (omega arith))
      ∙ sym (pairs_next passes l i n)

  module _ (h : 0 < length l) where
    whole : in_order 0 l ≡ (passes (get_or l 0 0) && leb 0 (offer_of (get_or l 0 0)) && in_order (offer_of (get_or l 0 0) + 1) (drop 1 l))
    whole = ap (in_order 0) (next l 0 h) ∙ t.first 0 (get_or l 0 0) (drop 1 l)

    pub first_passes : passes (get_or l 0 0) ≡ true → in_order 0 l ≡ are_pairs passes l 0 (length l - 1)
    first_passes e = whole ∙ rw (e, le-leb 0 (offer_of (get_or l 0 0)) (omega arith)) (behind (length l - 1) 0 (omega arith))
