pub mod Balance
pub mod Effects
pub mod Serving
pub mod Theorems
