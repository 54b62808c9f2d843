pub mod Lent
pub mod Meaning
