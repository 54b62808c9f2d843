pub mod Working
pub mod MapSizes
