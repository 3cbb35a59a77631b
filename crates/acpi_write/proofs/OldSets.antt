-- The tables of a clean set, and what they say.
pub mod CleanSets
pub mod FirstListed
pub mod FirstTables
pub mod LaterValues
pub mod Listing
pub mod OldTables
