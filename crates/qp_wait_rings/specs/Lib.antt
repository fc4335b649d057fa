pub mod Records
pub mod Cords
pub mod Rung
pub mod Lane
pub mod LaneLaws
pub mod Handed
