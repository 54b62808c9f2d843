pub mod Applying
pub mod Sides
