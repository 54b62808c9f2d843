pub mod Sound
pub mod Checks
pub mod Facts
