-- Flags: numbers of 32 bits whose top bit says that a test passed, and their joins.
-- Assumes nothing.
use Rattle.std.proofs.Common.{◌≡◌, ℕ, ◌+◌, ◌-◌, ◌*◌, ◌%◌, ◌^◌, ◌<◌, Bool, true, false, ◌&&◌, ◌||◌, eqb, ltb, sym, refl, ap, ◌∙◌, ap₂, arith, le-ltb, lt-ltb, eq-eqb, ne_eqb, eqb-true}
use native.Mathlib.Decide.{ℕ_discrete, dec_lt}
use lib.Bits.{bit_and, bit_or, and_high, and_shr, or_shr, and_le_l}
use Rattle.entry.specs.Word.{kind_of, offer_of, price_of, key_of, is_put, Put, is_valid, bit_of, top_of}

pub offer_field : (w : ℕ) → bit_and w (2 ^ 63 - 2 ^ 32) ≡ offer_of w * 2 ^ 32
offer_field w = and_high w 31 32

-- what a bit says
pub flag_set : (b : Bool) → (bit_of b ≡ 0 → ⊥) → b ≡ true
flag_set true n = refl
flag_set false n = absurd (n refl)

pub flag_unset : (b : Bool) → bit_of b ≡ 0 → b ≡ false
flag_unset true e = absurd (omega arith)
flag_unset false e = refl

-- flags joined by `and` say that both tests passed; the second counts only where the first passed
module _ (a b : ℕ) where
  pub and_flags : (p q : Bool) → top_of a ≡ bit_of p → (p ≡ true → top_of b ≡ bit_of q) → top_of (bit_and a b) ≡ bit_of (p && q)
  and_flags true q e f = and_shr a b 31 ∙ ap₂ bit_and e (f refl) ∙ both q
    where
      both : (q : Bool) → bit_and 1 (bit_of q) ≡ bit_of q
      both true = refl
      both false = refl
  and_flags false q e f = omega (arith, and_shr a b 31, and_le_l (top_of a) (top_of b))

  -- and joined by `or` that one of them passed
  pub or_flags : (p q : Bool) → top_of a ≡ bit_of p → top_of b ≡ bit_of q → top_of (bit_or a b) ≡ bit_of (p || q)
  or_flags p q e f = or_shr a b 31 ∙ ap₂ bit_or e f ∙ either p q
    where
      either : (p q : Bool) → bit_or (bit_of p) (bit_of q) ≡ bit_of (p || q)
      either true true = refl
      either true false = refl
      either false true = refl
      either false false = refl

-- the kind is the top bit of kind and offer
pub kind_flag : (w : ℕ) → w < 2 ^ 64 → top_of (key_of w) ≡ bit_of (is_put w)
kind_flag w h = go (ℕ_discrete (kind_of w) 1)
  where
    go : Dec (kind_of w ≡ 1) → top_of (key_of w) ≡ bit_of (is_put w)
    go (yes k) =
        let bit : top_of (key_of w) ≡ 1 = omega arith in
        bit ∙ rw (eq-eqb (kind_of w) 1 k)
    go (no k) =
        let bit : top_of (key_of w) ≡ 0 = omega arith in
        bit ∙ rw (ne_eqb (kind_of w) 1 k)

-- a word of kind 1 or with a price field of 0 is valid
pub valid_parts : (w : ℕ) → w < 2 ^ 64 → is_put w || eqb (price_of w) 0 ≡ is_valid w
valid_parts w h = go (ℕ_discrete (kind_of w) 1)
  where
    go : Dec (kind_of w ≡ 1) → is_put w || eqb (price_of w) 0 ≡ is_valid w
    go (yes k) = rw (eq-eqb (kind_of w) 1 k)
    go (no k) =
        let removes : kind_of w ≡ 0 = omega arith in
        rw (ne_eqb (kind_of w) 1 k, eq-eqb (kind_of w) 0 removes)

-- a difference of offers wraps where the second is the greater
pub rise_flag : (r v w : ℕ) → r < 2 ^ 32 → v < 2 ^ 31 → w < 2 ^ 31 → (r + w) % 2 ^ 32 ≡ v → top_of r ≡ bit_of (ltb v w)
rise_flag r v w small hv hw e = go (dec_lt v w)
  where
    go : Dec (v < w) → top_of r ≡ bit_of (ltb v w)
    go (yes h) =
        let bit : top_of r ≡ 1 = omega arith in
        bit ∙ rw (lt-ltb v w h)
    go (no h) =
        let bit : top_of r ≡ 0 = omega arith in
        bit ∙ rw (le-ltb v w (omega arith))

pub follow_flag : (a r v w : ℕ) → r < 2 ^ 32 → top_of a ≡ bit_of (is_valid w) → (r + offer_of w) % 2 ^ 32 ≡ offer_of v
    → top_of (bit_and a r) ≡ bit_of (is_valid w && ltb (offer_of v) (offer_of w))
follow_flag a r v w small m e =
    and_flags a r (is_valid w) (ltb (offer_of v) (offer_of w)) m
    (λ t. rise_flag r (offer_of v) (offer_of w) small (omega arith) (omega arith) e)

-- among words of kind 1 the difference of kinds and offers is that of the offers
same_kind : (r v w : ℕ) → r < 2 ^ 32 → v < 2 ^ 31 → w < 2 ^ 31 → (r + (2 ^ 31 + w)) % 2 ^ 32 ≡ 2 ^ 31 + v → (r + w) % 2 ^ 32 ≡ v
same_kind r v w small hv hw e = omega arith

-- behind a word of kind 1 it wraps where the offer is the greater; a word of kind 0 fails by its kind
module _ (r v w : ℕ) (small : r < 2 ^ 32) (hw : w < 2 ^ 64) (e : (r + key_of w) % 2 ^ 32 ≡ key_of v) (put : Put v) where
  above : is_put w ≡ true → top_of r ≡ bit_of (ltb (offer_of v) (offer_of w))
  above t =
      let k : kind_of w ≡ 1 = eqb-true (kind_of w) 1 t in
      let kw : key_of w ≡ 2 ^ 31 + offer_of w = omega arith in
      let kv : key_of v ≡ 2 ^ 31 + offer_of v = omega arith in
      let s : (r + (2 ^ 31 + offer_of w)) % 2 ^ 32 ≡ 2 ^ 31 + offer_of v = sym (ap (λ (x : ℕ). (r + x) % 2 ^ 32) kw) ∙ e ∙ kv in
      rise_flag r (offer_of v) (offer_of w) small (omega arith) (omega arith)
      (same_kind r (offer_of v) (offer_of w) small (omega arith) (omega arith) s)

  pub climb_flag : top_of (bit_and (key_of w) r) ≡ bit_of (is_put w && ltb (offer_of v) (offer_of w))
  climb_flag = and_flags (key_of w) r (is_put w) (ltb (offer_of v) (offer_of w)) (kind_flag w hw) above
