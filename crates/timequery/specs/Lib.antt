pub mod View
pub mod Faults
pub mod Homes
pub mod Archives
pub mod Asked
