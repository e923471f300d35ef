pub mod OpenTable
pub mod WriteSets
pub mod Txn
pub mod TxnFaults
pub mod Scans
