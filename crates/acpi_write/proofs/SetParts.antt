-- The parts of a set, and their addresses.
pub mod PartLengths
pub mod PartPlaces
pub mod PartsAppended
pub mod PartsInOrder
pub mod Refusals
