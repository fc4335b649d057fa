pub mod Lanes
pub mod Lamps
