pub mod Telling
pub mod Based
pub mod Behind
