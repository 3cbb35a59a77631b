-- The definitions that contracts of this crate cite.
pub mod ListedTables
pub mod SlotPass
