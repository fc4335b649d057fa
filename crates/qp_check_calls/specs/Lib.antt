-- The definitions of the judge's reader of calls.
pub mod AsCall
pub mod AsKnown
pub mod AsPiece
pub mod AsStage
pub mod Decides
pub mod Reads
pub mod CallState
pub mod CallStateLaws
pub mod CallStateNext
