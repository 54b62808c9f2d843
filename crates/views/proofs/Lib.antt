pub mod Encodes
pub mod Laid
mod Moving
pub mod Setters
pub mod SlotLists
pub mod SoundFacts
pub mod States
pub mod StepLists
pub mod Trims
pub mod Views
