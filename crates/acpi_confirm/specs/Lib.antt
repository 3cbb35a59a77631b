-- The definitions that contracts of this crate cite.
pub mod Cells
pub mod Conditions
pub mod Madts
pub mod References
pub mod Roots
pub mod Srats
pub mod Walks
