pub mod Codes
pub mod Bytes
pub mod Sequence
pub mod Parts
pub mod Stream
pub mod Faults
pub mod FramesLaw
