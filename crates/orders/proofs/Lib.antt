pub mod OneOrder
pub mod OrderKinds
