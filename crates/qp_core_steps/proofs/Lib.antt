pub mod QueueLemmas
pub mod LookLemmas
pub mod StepLemmas
pub mod ListLemmas
pub mod Standing
pub mod BlockLemmas
