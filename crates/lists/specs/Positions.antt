-- Where an offer stands in words.
-- Assumes nothing.
use Rattle.std.specs.Prelude.{◌≡◌, List, ℕ, ◌<◌, length, get_or}
use Rattle.entry.specs.Word.{offer_of}

-- the offer stands at that position of the words, or nowhere
abbrev pub OnlyAt : List ℕ → ℕ → ℕ → Type 0
OnlyAt words offer position = (i : ℕ) → i < length words → offer_of (get_or words i 0) ≡ offer → i ≡ position
