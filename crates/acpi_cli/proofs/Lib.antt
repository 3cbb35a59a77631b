-- Proofs about the command functions and the exit status.
pub mod FindingLines
pub mod Reporting
pub mod Statuses
mod Sent
