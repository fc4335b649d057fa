mod DeedLemmas
mod DeskLemmas
mod HandlerLemmas
mod StepLanes
mod ActorLemmas
pub mod NewWorlds
mod StimulusLanes
