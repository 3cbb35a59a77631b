-- The definitions that contracts of views cite.
pub mod Entries
pub mod EntryFaults
pub mod EntryTables
pub mod Fadts
pub mod FirstTables
pub mod Frames
pub mod Madts
pub mod Places
pub mod Pptts
pub mod Roots
pub mod Slits
pub mod Srats
pub mod Structures
