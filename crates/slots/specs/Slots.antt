-- The slots of a store, and one that opens or closes: "An open place records the anchor at its issue; a closed one records 0."
-- Assumes nothing.
use Rattle.std.specs.Prelude.{true, false, not, List, [], ◌∷◌, ℕ, leb, set}
use Rattle.answers.specs.declared.call.Reader.{Reader}
use Rattle.answers.specs.declared.ground.Ground.TheVariants.{SlotRange, OthersSlot}
use Rattle.answers.specs.First.{Test, met}
use Rattle.layout.specs.declared.head.Head.{Head}
use Rattle.layout.specs.Heads.{with_slots}
use Rattle.slots.specs.Callers.{has_slot}

-- ground 3: "The place is above 7."; and 19: "a place that isn't the caller's, tested after 3"
abbrev pub slot_grounds : Reader → List Test
slot_grounds reader =
    met (leb 8 reader.slot) SlotRange ∷ met (not (has_slot reader.caller reader.slot)) OthersSlot ∷ []

unfoldable pub opened : Head → ℕ → Head
opened head slot = with_slots head (set head.taken slot true) (set head.issued slot head.checkpoint)

unfoldable pub closed_at : Head → ℕ → Head
closed_at head slot = with_slots head (set head.taken slot false) (set head.issued slot 0)
