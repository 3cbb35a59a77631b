-- Proofs about image text, and about the texts of faults.
pub mod ByteMachine
pub mod ByteSearch
pub mod DataLines
pub mod DataPlaces
pub mod DigitTable
pub mod FaultTexts
pub mod GoodTexts
pub mod HexTexts
pub mod Judging
pub mod LineBuffers
pub mod LineParsing
pub mod LineSplitting
pub mod PlacedData
pub mod RowLanes
pub mod Rows
pub mod Written
