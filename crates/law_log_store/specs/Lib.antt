pub mod Members
pub mod Headers
pub mod Named
pub mod Reclaiming
pub mod Standing
pub mod Laws
pub mod Calls
pub mod Opened
