pub mod Standing
pub mod Laws
pub mod OnDisk
pub mod Stands
pub mod Calls
pub mod Homes
pub mod Views
pub mod Leaving
