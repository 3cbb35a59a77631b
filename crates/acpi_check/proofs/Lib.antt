-- Proofs about the stages.
pub mod EntryPasses
pub mod ListedSets
pub mod NodeLinks
mod ProcessorNumbers
mod SetFaults
mod Spans
