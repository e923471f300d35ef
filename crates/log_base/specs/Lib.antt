pub mod Bases
pub mod Laws
pub mod Names
pub mod Places
pub mod Rolls
