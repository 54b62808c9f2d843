-- The search by halving: words before low lie below the offer, and words past the size from there on lie above it.
-- Assumes nothing.
use mathlib.Core.Path.{◌≡◌, sym, ap, subst}
use mathlib.Core.List.{List}
use Prim.Native.Nat.{ℕ, ◌+◌, ◌-◌, ◌*◌, ◌/◌, ◌≤◌, ◌<◌}
use native.Mathlib.Decide.{dec_lt}
use native.Mathlib.Omega.{arith}
use borrow.Author.Tests.{le-leb, lt-leb}
use lib.Dec.{leb}
use lib.ListN.{length, get_or}
use Rattle.entry.specs.Word.{offer_of, bit_of}
use Rattle.changes.specs.Lists.{From}
use Rattle.changes.specs.Found.{Found}
use Rattle.std.proofs.Common.{None}
use Rattle.changes.specs.Calculus.{find}
use Rattle.changes.proofs.Find.{find_nowhere, not_below_at, rises_at}
use Rattle.lists.specs.Positions.{OnlyAt}
use Rattle.lists.specs.Searches.{said_by_found, Finds}

pub record Halving (words : List ℕ) (offer low size : ℕ) : Type 0 where
  pub inside : low + size ≤ length words
  pub below : (i : ℕ) → i < low → offer_of (get_or words i 0) < offer
  pub above : (i : ℕ) → low + size ≤ i → i < length words → offer < offer_of (get_or words i 0)

module _ {words : List ℕ} {offer low size : ℕ} (s : Halving words offer low size) where
  module _ (rises : From 0 words) (h : 1 < size) where
    abbrev half : ℕ
    half = size / 2

    abbrev there : ℕ
    there = offer_of (get_or words (low + half) 0)

    upper : there ≤ offer → Halving words offer (low + half * 1) (size - half)
    upper a =
        record {
          inside = omega (arith, s.inside);
          below = λ i k. omega (arith, rises_at 0 words rises i (low + half) (omega arith) (omega (arith, s.inside)));
          above = λ i k l. s.above i (omega arith) l;
        }

    lower : offer < there → Halving words offer (low + half * 0) (size - half)
    lower a =
        record {
          inside = omega (arith, s.inside);
          below = λ i k. s.below i (omega arith);
          above = λ i k l. omega (arith, not_below_at 0 words rises (low + half) i (omega arith) l);
        }

    pub halved : (r : ℕ) → r ≡ bit_of (leb there offer) → Halving words offer (low + half * r) (size - half)
    halved r e = go (dec_lt offer there)
      where
        go : Dec (offer < there) → Halving words offer (low + half * r) (size - half)
        go (yes l) =
            let bit : r ≡ 0 = rw (lt-leb there offer l) at e in
            subst (λ (n : ℕ). Halving words offer (low + half * n) (size - half)) (sym bit) (lower l)
        go (no l) =
            let bit : r ≡ 1 = rw (le-leb there offer (omega arith)) at e in
            subst (λ (n : ℕ). Halving words offer (low + half * n) (size - half)) (sym bit) (upper (omega arith))

-- the word at the only position is the word found
module _ (words : List ℕ) (offer at : ℕ) (only : OnlyAt words offer at) where
  pub none_there : length words ≤ at → find offer words ≡ None
  none_there h = find_nowhere offer words (λ i l e. absurd (omega (arith, only i l e)))

  pub other_there : (offer_of (get_or words at 0) ≡ offer → ⊥) → find offer words ≡ None
  other_there n = find_nowhere offer words (λ i l e. n (subst (λ (k : ℕ). offer_of (get_or words k 0) ≡ offer) (only i l e) e))

-- a search that finds what is meant says the same
pub finds : {a b : Found} → a ≡ b → Finds a b
finds e = (e, ap said_by_found e)
