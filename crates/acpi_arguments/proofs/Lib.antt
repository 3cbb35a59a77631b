-- Proofs about the arguments of the command line.
pub mod CheckRows
pub mod Declared
pub mod FaultWords
pub mod FirstCounts
pub mod Hyphens
pub mod InputsWords
pub mod JudgingArguments
pub mod PlainLines
pub mod PrintableTexts
pub mod Spellings
