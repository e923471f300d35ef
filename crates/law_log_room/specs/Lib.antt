pub mod Bases
pub mod Ends
pub mod Laws
