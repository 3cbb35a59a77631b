-- Proofs about structures of a fixed layout.
pub mod Headers
pub mod Kinds
pub mod RoundTrip
