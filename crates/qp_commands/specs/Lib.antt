-- The words of a call, and what they mean on plain calls.
pub mod WordTable
pub mod WordLaws
pub mod ByWord
