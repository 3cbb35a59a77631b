-- What a row of data says of a table.
pub mod Cases
pub mod Clauses
pub mod Fields
pub mod Given
pub mod Indexes
pub mod Known
pub mod Laws
pub mod Numbered
pub mod Numbers
pub mod Overlaps
pub mod Places
pub mod Rows
pub mod Series
pub mod Sites
pub mod Terms
pub mod Today
pub mod Walks
