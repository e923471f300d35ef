pub mod Fillings
pub mod Stops
pub mod Within
pub mod Overwrite
pub mod Parts
