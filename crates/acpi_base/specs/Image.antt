-- Definitions of images: how bytes are added to one, and how it is stored.
pub mod Adding
pub mod Draft
pub mod Lent
pub mod Pieces
pub mod Runs
pub mod Segments
pub mod Sums
