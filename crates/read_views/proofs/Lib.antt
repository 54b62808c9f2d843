pub mod ClosingViews
pub mod OnViews
pub mod SlotSets
