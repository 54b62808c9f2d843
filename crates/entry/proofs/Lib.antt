pub mod Laws
mod Joined
pub mod Flags
