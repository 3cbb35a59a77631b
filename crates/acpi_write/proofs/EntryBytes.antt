-- The bytes of entries: what is written for an entry, and what it says.
pub mod EntryForms
pub mod EntryLists
pub mod EntryReading
pub mod KeptEntries
pub mod NodeBytes
