pub mod Changing
pub mod Filtering
pub mod HeldSteps
pub mod Seeking
pub mod Theorems
