pub mod CalmLemmas
pub mod MergeLemmas
pub mod TurnLemmas
pub mod StimLemmas
pub mod RunLemmas
pub mod SourceLemmas
pub mod NumberLemmas
pub mod StimulusForm
pub mod SourceLanes
pub mod OrderLaws
mod OrderLemmas
mod PrefixLemmas
mod Rests
pub mod Records
pub mod Orders
pub mod LawLemmas
