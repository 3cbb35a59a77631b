-- Proofs about values, written tables and rebuilt sets.
pub mod EntryBytes
pub mod NewSets
pub mod OldSets
pub mod SetParts
pub mod Tables
pub mod TablesWritten
