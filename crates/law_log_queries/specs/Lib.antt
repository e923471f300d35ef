pub mod Archive
pub mod Calls
pub mod Laws
pub mod Names
pub mod Views
