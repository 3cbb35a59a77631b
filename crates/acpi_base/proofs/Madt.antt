-- Proofs about the MADT.
pub mod Faults
pub mod Interrupts
pub mod Overrides
