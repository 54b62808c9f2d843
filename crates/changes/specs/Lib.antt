pub mod Found
pub mod Lists
pub mod Calculus
pub mod ReadSets
pub mod Runs
