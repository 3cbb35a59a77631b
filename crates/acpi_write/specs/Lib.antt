-- The definitions that contracts on values and rebuilt sets cite.
pub mod Bodies
pub mod Encoded
pub mod FadtBody
pub mod Kinds
pub mod Laws
pub mod Placed
pub mod PlacedSets
pub mod Rebuilding
pub mod Rebuilt
pub mod SetBytes
pub mod SetValues
pub mod SetWriting
pub mod Spells
pub mod Values
pub mod Views
