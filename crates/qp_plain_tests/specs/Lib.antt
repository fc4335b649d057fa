pub mod Desk
pub mod StepTrial
pub mod StimulusTrial
