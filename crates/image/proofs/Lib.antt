pub mod ImageTest
pub mod RoundTrip
pub mod Storing
pub mod Theorems
pub mod Words
mod Halves
