pub mod Composing
pub mod Positions
