pub mod Values
pub mod Steps
pub mod Calls
pub mod Queries
pub mod Jobs
pub mod Opens
pub mod Formats
pub mod Places
