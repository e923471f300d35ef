pub mod Digits
pub mod Lines
pub mod Run
pub mod Session
pub mod Streams
pub mod Texts
