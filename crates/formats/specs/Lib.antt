pub mod Formats
pub mod Put
