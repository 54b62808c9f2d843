-- When a store is sound (document 01, "Sound means"; document 02, Q-6: "A sound head has such a depth."), by its clauses.
-- Assumes nothing.
use Rattle.std.specs.Prelude.{Bool, List, [], ◌∷◌, ℕ, eqb}
use Rattle.layout.specs.declared.head.Head.{Head}
use Rattle.layout.specs.Clauses.{is_table, are_numbers, is_journal, are_slots, is_depth}
use Rattle.layout.specs.States.{held_of}
use Rattle.layout.specs.Tests.{all_of, least}

-- "and floor the least of the anchor and the open places' numbers."
abbrev pub is_floor : Head → Bool
is_floor head = eqb head.oldest (least head.checkpoint head.taken head.issued)

-- a sound store: ground 2
unfoldable pub is_sound : List ℕ → List ℕ → Head → Bool
is_sound table journal head =
    all_of
    (is_table table head.used
    ∷ are_numbers head.oldest head.checkpoint head.tip
    ∷ is_journal journal head.ends (held_of head)
    ∷ are_slots head.checkpoint head.taken head.issued
    ∷ is_floor head
    ∷ is_depth head.depth
    ∷ [])
