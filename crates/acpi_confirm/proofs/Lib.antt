-- Proofs about the confirmation of a fault.
pub mod Across
pub mod Cells
pub mod Chains
pub mod EntriesAt
pub mod ListedTables
pub mod MadtFaults
pub mod PpttEntries
pub mod Roots
pub mod SratFaults
pub mod Starts
pub mod Walks
