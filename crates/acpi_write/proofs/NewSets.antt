-- The tables of a rebuilt image, and that they say the same.
pub mod KeptSets
pub mod NamedFacs
pub mod NewImage
pub mod NewParts
pub mod NewRoot
pub mod NewSet
pub mod NewTables
pub mod RewrittenTables
pub mod SameStages
