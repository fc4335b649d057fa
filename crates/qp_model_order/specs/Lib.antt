pub mod RunOrder
pub mod Placing
pub mod SourceRun
pub mod Stimulus
pub mod Laws
pub mod RestLaws
pub mod LaneLaws
