pub mod Dump
pub mod Dumped
