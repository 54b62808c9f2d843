pub mod Runs
pub mod Sheet
