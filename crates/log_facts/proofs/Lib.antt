pub mod HeapFaults
