-- Proofs about the PPTT.
pub mod CacheValues
pub mod Chains
pub mod Faults
pub mod Fits
pub mod Places
