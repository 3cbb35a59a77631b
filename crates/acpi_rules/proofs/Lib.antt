-- Proofs about rows, and about walks.
pub mod CasesOfType
pub mod Computed
pub mod ComputedLists
mod ComputedOverlaps
mod Elements
pub mod Following
pub mod FormFindings
mod GivenByRows
mod GivenNumbers
pub mod KnownNumbers
pub mod LeastPlaces
pub mod OverlappingNumbers
pub mod Reached
pub mod RepeatedNumbers
mod SortedNumbers
pub mod Steps
pub mod Today
pub mod ToldNumbers
pub mod TypedSites
