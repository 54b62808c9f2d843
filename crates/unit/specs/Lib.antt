pub mod Carried
pub mod Serve
