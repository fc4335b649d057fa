pub mod Resting
pub mod Rests
pub mod Turns
