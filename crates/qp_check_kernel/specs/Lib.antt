pub mod AsPlaced
pub mod LaneState
pub mod OneOrder
pub mod OrderTurns
pub mod StimulusIndex
pub mod Turns
