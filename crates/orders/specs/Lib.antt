pub mod Orders
pub mod Kinds
pub mod Effect
pub mod Effects
