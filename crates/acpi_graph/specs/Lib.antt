-- The definitions that contracts of the searches cite.
pub mod Spans
pub mod Parents
pub mod Walks
