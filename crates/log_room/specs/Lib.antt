pub mod Reserves
pub mod Rooms
pub mod Contents
pub mod Bases
