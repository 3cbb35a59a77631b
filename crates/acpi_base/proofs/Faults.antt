-- Faults in general: what can be decided has a first fault or none, and the laws.
pub mod Deciding
pub mod FirstStages
pub mod HoldsOrFault
pub mod LaterStages
pub mod Laws
pub mod Least
pub mod ListedTables
pub mod Numbers
pub mod Order
pub mod Rows
pub mod Stages
