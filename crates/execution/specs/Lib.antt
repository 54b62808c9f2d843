pub mod Tests
pub mod Executing
pub mod Working
