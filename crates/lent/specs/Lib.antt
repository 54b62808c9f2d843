pub mod Asked
pub mod Callers
pub mod Codes
pub mod Lent
