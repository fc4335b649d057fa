pub mod Lanes
pub mod Packing
pub mod Reading
