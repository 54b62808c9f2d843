-- The rules of a list of entry words (document 01, "What the unit holds").
-- Assumes nothing.
use Rattle.std.specs.Prelude.{Bool, true, not, ◌&&◌, List, [], ◌∷◌, ℕ, ◌+◌, ◌≤◌, leb, length}
use Rattle.entry.specs.Word.{offer_of, is_put, is_valid, Valid, Put}

-- valid words with strictly rising offers, the first at least n
unfoldable pub is_rising : ℕ → List ℕ → Bool
is_rising n [] = true
is_rising n (w ∷ l) = leb n (offer_of w) && is_valid w && is_rising (offer_of w + 1) l

-- "A list is 0 to 64 such words with strictly rising offers."
abbrev pub is_list : List ℕ → Bool
is_list l = leb (length l) 64 && is_rising 0 l

-- "used words of kind 1, offers strictly rising", the first at least n
unfoldable pub is_map : ℕ → List ℕ → Bool
is_map n [] = true
is_map n (w ∷ l) = is_put w && leb n (offer_of w) && is_map (offer_of w + 1) l

-- "an issue's list has a kind 1 word", or none: no word is of kind 1
unfoldable pub has_no_put : List ℕ → Bool
has_no_put [] = true
has_no_put (w ∷ l) = not (is_put w) && has_no_put l

-- The same as facts. A composition of lists rises and is valid too, and may pass 64 words.

-- strictly rising offers, the first at least n
unfoldable pub From : ℕ → List ℕ → Type 0
From n [] = Unit
From n (w ∷ l) = (n ≤ offer_of w) × From (offer_of w + 1) l

-- something holds of each element
unfoldable pub All : {A : Type 0} → (A → Type 0) → List A → Type 0
All P [] = Unit
All P (x ∷ l) = P x × All P l

-- changes: valid words with strictly rising offers
pub record Changes (l : List ℕ) : Type 0 where
  pub rises : From 0 l
  pub valid : All Valid l

-- a map from offers to prices, as the words of kind 1 that show it, offers strictly rising
pub record Map (m : List ℕ) : Type 0 where
  pub rises : From 0 m
  pub puts : All Put m
