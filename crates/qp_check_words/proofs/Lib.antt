pub mod BrokenLemmas
pub mod LawLemmas
pub mod ShownLemmas
pub mod SiteLemmas
pub mod WordLemmas
pub mod NumberLemmas
pub mod RiseLemmas
