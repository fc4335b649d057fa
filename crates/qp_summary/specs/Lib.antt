-- The definitions of the summary's writer.
pub mod Written
pub mod Coming
pub mod Resting
pub mod Counting
