pub mod Calling
pub mod Codes
