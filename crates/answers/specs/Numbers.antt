-- The numbers of the grounds (document 01, "Grounds for turning a call away"; document 02: "These and all later numbers join those of
-- document 01.").
-- Assumes nothing.
use Rattle.std.specs.Prelude.{ℕ}
use Rattle.answers.specs.declared.ground.Ground.{Ground}
use Rattle.answers.specs.declared.ground.Ground.TheVariants.{Lengths, Unsound, SlotRange, SlotTaken, SlotClosed, BadList}
use Rattle.answers.specs.declared.ground.Ground.TheVariants.{BadOrder, OfferNotRead, OrderNoPrice, PriceRange, StateRange, LastState}
use Rattle.answers.specs.declared.ground.Ground.TheVariants.{StepsFull, JournalFull, BadImage, TableFull, OutputShort}
use Rattle.answers.specs.declared.ground.Ground.TheVariants.{LongList, OthersSlot, TooDeep}

-- the number of each ground
abbrev pub number_of : Ground → ℕ
number_of Lengths = 1
number_of Unsound = 2
number_of SlotRange = 3
number_of SlotTaken = 4
number_of SlotClosed = 5
number_of BadList = 6
number_of BadOrder = 7
number_of OfferNotRead = 8
number_of OrderNoPrice = 9
number_of PriceRange = 10
number_of StateRange = 11
number_of LastState = 12
number_of StepsFull = 13
number_of JournalFull = 14
number_of BadImage = 15
number_of TableFull = 16
number_of OutputShort = 17
number_of LongList = 18
number_of OthersSlot = 19
number_of TooDeep = 20
