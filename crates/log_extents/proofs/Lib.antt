pub mod Bytes
pub mod Pieces
pub mod Numbers
pub mod Agreeing
pub mod Following
