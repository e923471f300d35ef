pub mod Firsts
pub mod Standing
pub mod Keys
pub mod Records
pub mod Nexts
pub mod Anchors
pub mod Plans
