-- Proofs about the root table and its slots.
pub mod Faults
pub mod Lists
pub mod Named
pub mod Slots
