pub mod Extents
pub mod Chains
pub mod Reading
pub mod Taking
pub mod Laws
