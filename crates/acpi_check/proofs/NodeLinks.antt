-- What the entries of a PPTT name, and the chains that they form.
pub mod ChainFaults
pub mod ChainIndices
pub mod IndexedNodes
pub mod KindPlaces
pub mod LinkedNodes
pub mod NamedPlaces
pub mod OffsetBits
pub mod OffsetsAdded
pub mod OneWay
pub mod ReferencePass
