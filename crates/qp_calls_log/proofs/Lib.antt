pub mod LogLemmas
pub mod NoteLemmas
pub mod Meetings
