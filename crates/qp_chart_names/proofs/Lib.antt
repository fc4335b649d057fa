pub mod PathLemmas
pub mod NumberingLemmas
pub mod FaultLemmas
pub mod LookupLemmas
pub mod TestLemmas
pub mod KnownLemmas
