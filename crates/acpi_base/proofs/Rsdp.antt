-- Proofs about the RSDP.
pub mod Faults
pub mod Naming
