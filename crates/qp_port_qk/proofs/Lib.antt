mod Seeing
mod Turning
mod Ending
mod Sealing
mod Beginning
mod Coming
mod Resting
mod Rows
mod Running
mod CrossingLemmas
pub mod Based
pub mod Turned
