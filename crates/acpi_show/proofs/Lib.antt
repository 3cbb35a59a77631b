-- Proofs about the tables that are shown.
pub mod ListedTables
