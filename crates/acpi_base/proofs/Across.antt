-- Proofs about the rules across tables.
pub mod Domains
pub mod Leaves
pub mod Served
