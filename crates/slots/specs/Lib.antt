pub mod Callers
pub mod Slots
