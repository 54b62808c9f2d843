pub mod HeadTests
pub mod Holds
pub mod StepTests
pub mod WordTests
