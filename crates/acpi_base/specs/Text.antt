-- Definitions of image text, and of the texts of faults.
pub mod ImageText
pub mod LineBuffers
pub mod Lines
pub mod Rows
pub mod StateCode
pub mod TextLaws
pub mod TextMachine
pub mod TextMeaning
pub mod TextMemory
pub mod TextReading
pub mod WitnessText
pub mod WrittenText
