pub mod Standing
pub mod State
pub mod Runs
