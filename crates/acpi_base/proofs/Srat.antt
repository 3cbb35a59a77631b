-- Proofs about the SRAT.
pub mod DomainBytes
pub mod Faults
pub mod Ranges
