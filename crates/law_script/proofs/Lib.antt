pub mod Among
pub mod Names
pub mod Leading
pub mod Lines
pub mod Steps
pub mod Closing
pub mod Script
