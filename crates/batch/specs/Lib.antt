pub mod OnMaps
pub mod Batches
