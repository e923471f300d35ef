pub mod Archives
pub mod Anchors
pub mod Ahead
pub mod Laws
