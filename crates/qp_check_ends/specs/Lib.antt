-- What is left of the records of a source, and what it reads next.
pub mod TickState
pub mod SettleState
pub mod AsStates
pub mod Underway
pub mod SourceState
pub mod Tries
pub mod AsSource
pub mod JournalEnd
pub mod Resting
pub mod Takes
