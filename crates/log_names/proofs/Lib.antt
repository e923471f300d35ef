pub mod Halving
pub mod Looking
pub mod Right
pub mod Sorting
pub mod Walking
