pub mod Turns
pub mod Writer
pub mod Whole
