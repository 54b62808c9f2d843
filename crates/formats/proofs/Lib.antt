pub mod Laws
pub mod Offered
pub mod Putting
