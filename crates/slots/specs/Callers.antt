-- What a caller has (document 02, Q-1): "every issue, forward, drop and lookup says who calls: desk or foyer. Lookups are open to both."
-- Assumes nothing.
use Rattle.std.specs.Prelude.{Bool, List, [], ◌∷◌, ℕ, ltb, leb}
use Rattle.answers.specs.declared.call.Caller.{Caller}
use Rattle.answers.specs.declared.call.Caller.TheVariants.{Desk, Foyer}
use Rattle.answers.specs.declared.call.Reader.{Reader}
use Rattle.answers.specs.declared.ground.Ground.TheVariants.{LongList}
use Rattle.answers.specs.First.{Test, met}

-- who calls, and the place that the call names
abbrev pub reader_of : Caller → ℕ → Reader
reader_of caller slot = record { caller = caller; slot = slot }

-- "The foyer has places 6 and 7, the desk 0 to 5": whether a place from 0 to 7 is the caller's
abbrev pub has_slot : Caller → ℕ → Bool
has_slot Desk slot = ltb slot 6
has_slot Foyer slot = leb 6 slot

-- "The desk stays at 64 words a list; the foyer may issue and forward at most 16."
abbrev pub most_words : Caller → ℕ
most_words Desk = 64
most_words Foyer = 16

-- ground 18: "a foyer list over 16 words, tested after 6", of a list of so many words. One of the desk over 64 has been turned away by 6.
abbrev pub long_grounds : Caller → ℕ → List Test
long_grounds caller count = met (ltb (most_words caller) count) LongList ∷ []
