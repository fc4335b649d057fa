pub mod Used
pub mod Holds
pub mod Lane
pub mod More
pub mod Laws
