-- From what is found in a table to the first fault of a set.
pub mod FirstFaults
pub mod Headlines
pub mod Slots
pub mod StageByStage
pub mod TablesLifted
