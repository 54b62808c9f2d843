-- Words in turn, each against the one before it.
-- Assumes nothing.
use Rattle.std.specs.Prelude.{◌≡◌, Bool, true, ◌&&◌, List, ℕ, zero, suc, ◌+◌, ltb, get_or}
use Rattle.entry.specs.Word.{offer_of, bit_of, top_of}

-- a word passes a test, and its offer lies above that of the word before it
abbrev pub is_pair : (ℕ → Bool) → ℕ → ℕ → Bool
is_pair passes before word = passes word && ltb (offer_of before) (offer_of word)

-- and so do n words in turn, the first of them the one behind a position
unfoldable pub are_pairs : (ℕ → Bool) → List ℕ → ℕ → ℕ → Bool
are_pairs passes words from zero = true
are_pairs passes words from (suc n) =
    is_pair passes (get_or words from 0) (get_or words (from + 1) 0) && are_pairs passes words (from + 1) n

-- what a flag says of n words in turn: behind a word that passes, whether they do
abbrev pub Says : (ℕ → Bool) → List ℕ → ℕ → ℕ → ℕ → Type 0
Says passes words from n flag = passes (get_or words from 0) ≡ true → top_of flag ≡ bit_of (are_pairs passes words from n)
