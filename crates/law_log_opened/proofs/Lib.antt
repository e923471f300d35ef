pub mod Empty
pub mod Formatted
pub mod Created
pub mod Fronts
pub mod Reopened
pub mod Answering
