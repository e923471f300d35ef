pub mod Fields
pub mod Times
pub mod Json
pub mod Csv
pub mod Lines
pub mod Shown
pub mod Styles
pub mod Laws
