mod Fields
pub mod Members
