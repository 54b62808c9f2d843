-- The loop that composes two lists.
-- Assumes nothing.
use mathlib.Core.Bool.{cond}
use mathlib.Core.Path.{◌≡◌, ap, ◌∙◌}
use mathlib.Core.List.{List, ◌∷◌}
use Prim.Native.Nat.{ℕ, ◌+◌, ◌≤◌, ◌<◌}
use native.Mathlib.Omega.{arith}
use borrow.Author.Tests.{lt-ltb, le-ltb}
use lib.Dec.{ltb}
use lib.ListN.{length, drop, get_or, set, length-set, drop_of_length-le}
use Rattle.entry.specs.Word.{offer_of}
use Rattle.changes.specs.Calculus.{compose}
use Rattle.changes.proofs.Merging.{Lies, lower, equal, higher, lies, compose-nil, nil-compose}
use Rattle.composing.proofs.Positions.{compose_at_below, compose_at_same, compose_at_above}
use Rattle.words.proofs.Writing.{Writing, stored}

-- i words of the earlier and j of the later list are passed, and k words are written
pub record Composing (a b out out₀ : List ℕ) (i j k : ℕ) : Type 0 where
  pub i_in : i ≤ length a
  pub j_in : j ≤ length b
  pub few : k ≤ i + j
  pub room : length a + length b ≤ length out
  pub writing : Writing out out₀ k (compose (drop i a) (drop j b)) (compose a b)

module _ {a b out out₀ : List ℕ} {i j k : ℕ} (c : Composing a b out out₀ i j k) where
  -- a word is stored that comes first in what is left, and the positions go on
  taken : (x p q : ℕ) → p ≤ length a → q ≤ length b → i + j < p + q → compose (drop i a) (drop j b) ≡ x ∷ compose (drop p a) (drop q b)
      → Composing a b (set out k x) out₀ p q (k + 1)
  taken x p q hp hq more e =
      record {
        i_in = hp;
        j_in = hq;
        few = omega (arith, c.few);
        room = rw length-set c.room;
        writing = stored c.writing e (omega (arith, c.room, c.few));
      }

  -- an iteration: the word at the lower offer is stored, the later one where they are equal, and either list goes past its word unless
  -- the other's is lower
  module _ (g : i < length a) (h : j < length b) where
    abbrev v : ℕ
    v = get_or a i 0

    abbrev w : ℕ
    w = get_or b j 0

    module _ (x p q : ℕ) (ex : x ≡ cond (ltb (offer_of v) (offer_of w)) v w)
        (ep : p ≡ cond (ltb (offer_of w) (offer_of v)) i (i + 1)) (eq : q ≡ cond (ltb (offer_of v) (offer_of w)) j (j + 1)) where
      abbrev Iteration : Type 0
      Iteration = Composing a b (set out k x) out₀ p q (k + 1)

      pub iteration : Iteration
      iteration = go (lies (offer_of v) (offer_of w))
        where
          go : Lies (offer_of v) (offer_of w) → Iteration
          go (lower e) =
              rw (ex, ep, eq, lt-ltb (offer_of v) (offer_of w) e, le-ltb (offer_of w) (offer_of v) (omega arith))
              (taken v (i + 1) j (omega arith) c.j_in (omega arith) (compose_at_below a b i j g h e))
          go (equal e) =
              rw (ex, ep, eq, le-ltb (offer_of v) (offer_of w) (omega arith), le-ltb (offer_of w) (offer_of v) (omega arith))
              (taken w (i + 1) (j + 1) (omega arith) (omega arith) (omega arith) (compose_at_same a b i j g h e))
          go (higher e) =
              rw (ex, ep, eq, le-ltb (offer_of v) (offer_of w) (omega arith), lt-ltb (offer_of w) (offer_of v) e)
              (taken w i (j + 1) c.i_in (omega arith) (omega arith) (compose_at_above a b i j g h e))

  pub left_earlier : length b ≤ j → compose (drop i a) (drop j b) ≡ drop i a
  left_earlier h = ap (compose (drop i a)) (drop_of_length-le b h) ∙ compose-nil (drop i a)

  pub left_later : length a ≤ i → compose (drop i a) (drop j b) ≡ drop j b
  left_later h = ap (λ (l : List ℕ). compose l (drop j b)) (drop_of_length-le a h) ∙ nil-compose (drop j b)
