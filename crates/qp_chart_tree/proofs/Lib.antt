-- Lemmas of walks.
pub mod WalkLemmas
pub mod PlanLemmas
