pub mod Closing
pub mod Passed
