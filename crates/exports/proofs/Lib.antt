pub mod Writing
pub mod ImagesWritten
pub mod Theorems
