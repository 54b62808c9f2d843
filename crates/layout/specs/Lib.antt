pub mod Tests
pub mod Heads
pub mod Clauses
pub mod States
