pub mod Queues
pub mod Looks
pub mod Steps
pub mod Lists
pub mod Seats
pub mod Words
pub mod Keeps
pub mod Blocks
