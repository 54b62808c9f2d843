pub mod Check
pub mod Numbers
pub mod First
pub mod Answers
pub mod Counts
