pub mod Judging
pub mod WordRules
pub mod WordsLaw
pub mod MarkOrder
pub mod Marks
pub mod Numbers
pub mod RecordsByWord
pub mod SystemWords
