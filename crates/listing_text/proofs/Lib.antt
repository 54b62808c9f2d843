pub mod Digits
pub mod Pieces
pub mod Lines
pub mod Theorems
