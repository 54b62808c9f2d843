pub mod Choices
pub mod TallyWords
pub mod Coded
