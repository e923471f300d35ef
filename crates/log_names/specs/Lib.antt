pub mod Looks
pub mod Rolls
pub mod Standing
