pub mod StateTreeLemmas
pub mod MainStateLemmas
pub mod TreeLemmas
mod TransitionTable
pub mod BindingLemmas
mod ParentsLemmas
pub mod ChartTree
pub mod LegalLemmas
pub mod CrossingLemmas
