pub mod Arrays
pub mod Below
pub mod BelowParts
pub mod Packing
pub mod Theorems
