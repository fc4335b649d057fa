-- Lemmas of compiled charts.
pub mod PushLemmas
pub mod PlanLemmas
pub mod ChoiceLemmas
pub mod LeafLemmas
pub mod StepLemmas
