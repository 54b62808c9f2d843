pub mod Callers
pub mod Moments
pub mod Table
pub mod Images
pub mod Batches
pub mod Since
pub mod Sheets
pub mod Depths
