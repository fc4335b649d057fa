pub mod Lane
pub mod LaneLaws
pub mod Meeting
