pub mod Lanes
pub mod Never
pub mod Resting
pub mod Takes
pub mod Stepping
pub mod Beginning
pub mod Starting
mod Leaving
mod Going
mod Turned
mod Along
mod Glancing
mod Finding
mod Waiting
mod Tries
mod Opening
mod Settling
mod Ending
mod Nexts
pub mod Standing
mod Asking
mod Tellings
pub mod Seeing
pub mod Hearing
pub mod Feeding
