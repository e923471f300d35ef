pub mod Reading
pub mod Settling
pub mod Committing
pub mod Winning
pub mod Asking
pub mod Reopening
