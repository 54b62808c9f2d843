pub mod InOrder
pub mod Pairs
pub mod Positions
pub mod Searches
