pub mod InStep
pub mod Formats
pub mod Created
pub mod Lives
pub mod Advancing
pub mod Spelled
pub mod Beginning
pub mod Planning
pub mod Rooms
pub mod LivesRead
pub mod Places
pub mod Heads
pub mod Entries
pub mod Entering
mod Archives
pub mod Times
