-- The definitions that contracts of the checker cite.
pub mod ChainIndices
pub mod Chains
pub mod CollectedValues
pub mod EntryPlaces
pub mod FirstBelow
pub mod FirstSeen
pub mod Headline
pub mod NamedNumbers
pub mod BitSets
pub mod PassResults
pub mod Processors
pub mod RangeSpans
pub mod ServedGsis
pub mod Set
pub mod StageResults
pub mod StageSets
pub mod TableResults
