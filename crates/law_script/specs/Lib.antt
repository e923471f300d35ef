pub mod ScriptMoments
pub mod Says
pub mod Keeps
pub mod Promise
