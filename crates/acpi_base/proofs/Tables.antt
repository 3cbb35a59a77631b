-- Proofs about system description tables.
pub mod Faults
pub mod Kinds
pub mod Listed
