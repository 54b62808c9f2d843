pub mod Restart
pub mod Written
