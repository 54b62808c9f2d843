pub mod Sounds
pub mod Passed
