-- Proofs about the written form of an image.
pub mod Lines
pub mod OneWritten
pub mod Pairs
pub mod Reading
pub mod Rows
pub mod WrittenRuns
