-- The definitions that contracts of the exported functions cite.
pub mod AddedPieces
pub mod Answers
pub mod Kinds
pub mod Laws
pub mod Made
pub mod Meanings
pub mod Pieces
pub mod Results
pub mod Settings
pub mod Sources
