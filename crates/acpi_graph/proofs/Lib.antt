-- Proofs about spans and chains of parents.
pub mod ClearOfNeighbours
pub mod Chains
pub mod Rounds
pub mod SortedSpans
mod FirstOverlap
mod Walks
