pub mod Ending
pub mod Handed
pub mod Places
