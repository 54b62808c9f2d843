-- What the test of a list and that of a map share.
-- Assumes nothing.
use Rattle.std.specs.Prelude.{◌≡◌, refl, Bool, true, ◌&&◌, List, [], ◌∷◌, ℕ, ◌+◌, leb}
use Rattle.std.proofs.Math.Bool.{and_comm}
use Rattle.std.proofs.Common.{ap}
use Rattle.entry.specs.Word.{offer_of, is_put, is_valid}
use Rattle.changes.specs.Lists.{is_rising, is_map}

-- A test of words in turn, of which the first has at least a given offer: each passes a test of its own, and its offer lies above
-- that of the word before it.
pub record InOrder (in_order : ℕ → List ℕ → Bool) (passes : ℕ → Bool) : Type 0 where
  pub none : (n : ℕ) → in_order n [] ≡ true
  pub first : (n w : ℕ) (l : List ℕ) → in_order n (w ∷ l) ≡ (passes w && leb n (offer_of w) && in_order (offer_of w + 1) l)

-- the words of a list, each valid
pub lists : InOrder is_rising is_valid
unfolding is_rising
lists = record {
  none = λ n. refl;
  first = λ n w l. ap (λ b. b && is_rising (offer_of w + 1) l) (and_comm (leb n (offer_of w)) (is_valid w));
}

-- the words of a map, each of kind 1
pub maps : InOrder is_map is_put
unfolding is_map
maps = record { none = λ n. refl; first = λ n w l. refl }
