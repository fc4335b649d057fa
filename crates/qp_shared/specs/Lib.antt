pub mod Lane
pub mod Starting
pub mod Ending
pub mod LaneLaws
pub mod WasSealed
