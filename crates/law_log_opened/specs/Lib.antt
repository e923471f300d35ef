pub mod Formats
pub mod Laws
pub mod Answers
