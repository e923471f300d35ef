pub mod Kept
pub mod Conflicts
pub mod Settled
pub mod Views
pub mod Reopened
pub mod Public
