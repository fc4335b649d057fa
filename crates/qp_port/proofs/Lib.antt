mod CrossingLemmas
mod Staying
mod QuietHomes
mod Standing
mod Rows
mod Coming
mod Beginning
mod Ending
mod Running
pub mod Sealing
mod Showing
