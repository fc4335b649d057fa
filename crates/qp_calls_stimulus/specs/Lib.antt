pub mod Settling
pub mod Calling
pub mod Stimulating
