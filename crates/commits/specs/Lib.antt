pub mod Values
pub mod Calls
pub mod Steps
pub mod Order
