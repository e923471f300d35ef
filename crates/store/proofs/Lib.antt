pub mod Opened
pub mod Made
pub mod JobSteps
pub mod InStep
pub mod ReclaimStarts
pub mod Begins
pub mod ArchiveStarts
