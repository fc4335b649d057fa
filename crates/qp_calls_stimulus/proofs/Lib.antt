pub mod Halting
mod Settled
pub mod Completing
mod Called
mod Aloof
mod Begun
mod Telling
