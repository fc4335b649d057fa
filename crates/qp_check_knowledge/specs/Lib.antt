pub mod HomeCounts
pub mod Knowledge
pub mod KnownSteps
pub mod KnownTables
pub mod KnownWords
pub mod Looks
pub mod SpillCuts
