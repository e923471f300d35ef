pub mod Opened
pub mod WriteSetLemmas
pub mod TxnLemmas
pub mod ScanLemmas
pub mod StateScans
