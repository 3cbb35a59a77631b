-- The bytes of a table: what is written for what it says.
pub mod EntryRuns
pub mod FadtBodies
pub mod KeptContents
pub mod RewrittenEntries
pub mod RsdpBytes
pub mod Sums
pub mod CompleteTables
