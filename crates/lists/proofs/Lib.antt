pub mod Halving
mod Pairs
mod Scans
mod InOrder
