pub mod Lines
pub mod Systems
pub mod Journals
pub mod Broken
pub mod Samples
pub mod Summaries
