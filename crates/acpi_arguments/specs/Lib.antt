-- The definitions that contracts of the crate cite.
pub mod CommandLine
pub mod Printable
pub mod Topics
pub mod Words
