pub mod Heads
pub mod Taken
pub mod Sealed
pub mod Orders
pub mod Kept
pub mod Publishing
pub mod Queueing
pub mod Reclaiming
