pub mod Answers
pub mod Calls
pub mod Hosts
pub mod Moments
pub mod Promise
pub mod Formats
