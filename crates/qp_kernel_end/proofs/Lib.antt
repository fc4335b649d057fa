pub mod OutcomeLemmas
pub mod LastLemmas
