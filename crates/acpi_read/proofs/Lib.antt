-- Proofs about views and entries.
pub mod EntriesLeft
pub mod FirstsKept
pub mod MadtFaults
pub mod MadtKinds
pub mod PpttFaults
pub mod PpttKinds
pub mod SlitCells
pub mod SratFaults
pub mod SratKinds
