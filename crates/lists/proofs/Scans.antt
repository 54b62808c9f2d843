-- The scan of neighbours in blocks, which may overlap.
-- Assumes nothing.
use mathlib.Core.Path.{◌≡◌, ◌∙◌, refl, sym, ap}
use mathlib.Core.Bool.{Bool, true, false}
use mathlib.Core.List.{List}
use Prim.Native.Nat.{ℕ, ◌+◌, ◌-◌, ◌≤◌, ◌<◌}
use native.Mathlib.Omega.{arith}
use lib.ListN.{length, get_or}
use Rattle.entry.specs.Word.{bit_of, top_of}
use Rattle.entry.proofs.Flags.{flag_set, flag_unset}
use Rattle.lists.specs.Pairs.{are_pairs, Says}
use Rattle.lists.proofs.Pairs.{pairs_join, pairs_front, pairs_fail, pairs_last}

-- the first word and the pairs before a position pass, and a block of n pairs that starts no later has a flag
module _ (passes : ℕ → Bool) (l : List ℕ) (first : passes (get_or l 0 0) ≡ true) {i : ℕ} (passed : are_pairs passes l 0 i ≡ true)
    (a n flag : ℕ) (le : a ≤ i) (room : a + n < length l) (says : Says passes l a n flag) where
  before : are_pairs passes l 0 a ≡ true
  before = pairs_front passes l 0 i a le passed

  said : top_of flag ≡ bit_of (are_pairs passes l a n)
  said =
      let position : a ≡ 0 + a = omega arith in
      says (ap (λ (k : ℕ). passes (get_or l k 0)) position ∙ pairs_last passes l 0 a first before)

  pub block_passes : (top_of flag ≡ 0 → ⊥) → are_pairs passes l 0 (a + n) ≡ true
  block_passes h =
      let position : 0 + a ≡ a = omega arith in
      let here : are_pairs passes l a n ≡ true = flag_set (are_pairs passes l a n) (λ z. h (said ∙ z)) in
      sym (pairs_join passes l 0 a n) ∙ rw (before, position, here) refl

  pub block_fails : top_of flag ≡ 0 → are_pairs passes l 0 (length l - 1) ≡ false
  block_fails h = pairs_fail passes l (length l - 1) a n (omega arith) (flag_unset (are_pairs passes l a n) (sym said ∙ h))
