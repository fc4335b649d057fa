pub mod Lanes
pub mod PortLanes
pub mod PortSealing
pub mod QkSealing
pub mod Worlds
pub mod Stopped
