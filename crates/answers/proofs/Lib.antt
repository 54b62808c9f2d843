pub mod Firsts
pub mod Counting
pub mod Counted
