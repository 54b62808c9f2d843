pub mod Laid
pub mod Trim
pub mod View
