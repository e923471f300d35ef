pub mod DumpLemmas
pub mod Kept
pub mod Keeping
pub mod Said
mod Sizes
mod Turns
