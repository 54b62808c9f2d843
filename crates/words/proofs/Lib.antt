pub mod Parts
pub mod Pieces
pub mod Writing
