-- Stretches of neighbours, and the flags that say whether they pass.
-- Assumes nothing.
use mathlib.Core.Path.{◌≡◌, ◌∙◌, refl, sym, ap, subst}
use mathlib.Core.Bool.{Bool, true, false, ◌&&◌, and-true, and-false, and_assoc}
use mathlib.Core.List.{List}
use Prim.Native.Nat.{ℕ, zero, suc, ◌+◌, ◌-◌, ◌≤◌}
use native.Mathlib.Omega.{arith}
use lib.Bits.{bit_and}
use lib.Dec.{ltb}
use lib.ListN.{get_or}
use Rattle.entry.specs.Word.{offer_of, bit_of, top_of}
use Rattle.entry.proofs.Flags.{and_flags}
use Rattle.changes.proofs.ListTest.{and_both}
use Rattle.lists.specs.Pairs.{is_pair, are_pairs, Says}

module _ (passes : ℕ → Bool) (l : List ℕ) where
  pub pairs_none : (a : ℕ) → are_pairs passes l a 0 ≡ true
  unfolding are_pairs
  pairs_none a = refl

  pub pairs_next : (a n : ℕ) → are_pairs passes l a (suc n) ≡ is_pair passes (get_or l a 0) (get_or l (a + 1) 0)
      && are_pairs passes l (a + 1) n
  unfolding are_pairs
  pairs_next a n = refl

  pub pairs_one : (a b : ℕ) → b ≡ a + 1 → is_pair passes (get_or l a 0) (get_or l b 0) ≡ are_pairs passes l a 1
  pairs_one a b e = rw e (sym (pairs_next a 0 ∙ rw (pairs_none (a + 1)) (and-true _)))

  -- a stretch is the stretch of its first pairs and that of the others
  pub pairs_join : (a n k : ℕ) → are_pairs passes l a n && are_pairs passes l (a + n) k ≡ are_pairs passes l a (n + k)
  pairs_join a zero k =
      let position : a + 0 ≡ a = omega arith in
      let all : 0 + k ≡ k = omega arith in
      rw (pairs_none a, position, all) refl
  pairs_join a (suc n) k =
      let position : a + suc n ≡ a + 1 + n = omega arith in
      let all : suc n + k ≡ suc (n + k) = omega arith in
      rw (all, pairs_next a n, pairs_next a (n + k), position, ← pairs_join (a + 1) n k)
      (and_assoc (is_pair passes (get_or l a 0) (get_or l (a + 1) 0)) (are_pairs passes l (a + 1) n) (are_pairs passes l (a + 1 + n) k))

  -- what is left of a stretch that passes passes too, and a stretch with a part that fails fails
  pub pairs_front : (a n k : ℕ) → k ≤ n → are_pairs passes l a n ≡ true → are_pairs passes l a k ≡ true
  pairs_front a n k h e =
      let sum : k + (n - k) ≡ n = omega arith in
      (and_both (are_pairs passes l a k) (are_pairs passes l (a + k) (n - k))
      (pairs_join a k (n - k) ∙ ap (are_pairs passes l a) sum ∙ e)).0

  pub pairs_fail : (n a k : ℕ) → a + k ≤ n → are_pairs passes l a k ≡ false → are_pairs passes l 0 n ≡ false
  pairs_fail n a k h e =
      let sum : a + k + (n - (a + k)) ≡ n = omega arith in
      let position : 0 + a ≡ a = omega arith in
      let front : are_pairs passes l 0 (a + k) ≡ false = sym (pairs_join 0 a k) ∙ rw (position, e) (and-false (are_pairs passes l 0 a)) in
      ap (are_pairs passes l 0) (sym sum) ∙ sym (pairs_join 0 (a + k) (n - (a + k))) ∙ rw front

module _ (passes : ℕ → Bool) (l : List ℕ) where
  -- the last word of a stretch that passes behind a word that passes
  pub pairs_last : (a n : ℕ) → passes (get_or l a 0) ≡ true → are_pairs passes l a n ≡ true → passes (get_or l (a + n) 0) ≡ true
  pairs_last a zero p e =
      let position : a ≡ a + 0 = omega arith in
      subst (λ (k : ℕ). passes (get_or l k 0) ≡ true) position p
  pairs_last a (suc n) p e =
      let position : a + 1 + n ≡ a + suc n = omega arith in
      let both = and_both (is_pair passes (get_or l a 0) (get_or l (a + 1) 0)) (are_pairs passes l (a + 1) n)
      (sym (pairs_next passes l a n) ∙ e) in
      let word = and_both (passes (get_or l (a + 1) 0)) (ltb (offer_of (get_or l a 0)) (offer_of (get_or l (a + 1) 0))) both.0 in
      subst (λ (k : ℕ). passes (get_or l k 0) ≡ true) position (pairs_last (a + 1) n word.0 both.1)

  -- the flags of two stretches joined
  pub says_both : (a n k flag next : ℕ) → Says passes l a n flag → Says passes l (a + n) k next
      → Says passes l a (n + k) (bit_and flag next)
  says_both a n k flag next x y p =
      and_flags flag next (are_pairs passes l a n) (are_pairs passes l (a + n) k) (x p) (λ e. y (pairs_last a n p e))
      ∙ ap bit_of (pairs_join passes l a n k)

  -- of four stretches
  pub says_four : (a n q r s u : ℕ) → Says passes l a n q → Says passes l (a + n) n r → Says passes l (a + (n + n)) n s
      → Says passes l (a + (n + n + n)) n u → Says passes l a (n + n + n + n) (bit_and (bit_and (bit_and q r) s) u)
  says_four a n q r s u w x y z =
      says_both a (n + n + n) n (bit_and (bit_and q r) s) u
      (says_both a (n + n) n (bit_and q r) s (says_both a n n q r w x) y) z

  -- what a flag says of a pair
  abbrev pub Flags : ℕ → ℕ → ℕ → Type 0
  Flags a b flag = passes (get_or l a 0) ≡ true → top_of flag ≡ bit_of (is_pair passes (get_or l a 0) (get_or l b 0))

  pub says_pair : (a b flag : ℕ) → b ≡ a + 1 → Flags a b flag → Says passes l a 1 flag
  says_pair a b flag e f p = f p ∙ ap bit_of (pairs_one passes l a b e)

  -- the flags of four pairs joined
  pub says_pairs : (a q r s u : ℕ) → Flags a (a + 1) q → Flags (a + 1) (a + 2) r → Flags (a + 2) (a + 3) s
      → Flags (a + 3) (a + 4) u → Says passes l a 4 (bit_and (bit_and (bit_and q r) s) u)
  says_pairs a q r s u w x y z =
      says_four a 1 q r s u (says_pair a (a + 1) q refl w) (says_pair (a + 1) (a + 2) r (omega arith) x)
      (says_pair (a + 2) (a + 3) s (omega arith) y) (says_pair (a + 3) (a + 4) u (omega arith) z)

  -- the flag of the next pair is joined to those of the pairs before
  pub says_more : (i flag next : ℕ) → 1 ≤ i → Says passes l 0 (i - 1) flag → Flags (i - 1) i next
      → Says passes l 0 (i + 1 - 1) (bit_and flag next)
  says_more i flag next h x y =
      let here : i - 1 ≡ 0 + (i - 1) = omega arith in
      let there : i ≡ i - 1 + 1 = omega arith in
      let more : i - 1 + 1 ≡ i + 1 - 1 = omega arith in
      subst (λ (n : ℕ). Says passes l 0 n (bit_and flag next)) more
      (says_both 0 (i - 1) 1 flag next x (subst (λ (a : ℕ). Says passes l a 1 next) here (says_pair (i - 1) i next there y)))
