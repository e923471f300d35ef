pub mod Versions
pub mod Times
pub mod Fronts
pub mod Opened
pub mod Formatted
pub mod Reopened
pub mod Answering
mod Runs
mod Witness
