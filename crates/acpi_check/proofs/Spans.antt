-- Ranges of addresses and of interrupt numbers, as spans.
pub mod Clashes
pub mod CoveredSpans
pub mod EntrySpans
pub mod RangeClashes
pub mod ServedFaults
pub mod RisingSpans
pub mod ServedSpans
