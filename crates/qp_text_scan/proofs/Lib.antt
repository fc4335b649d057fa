pub mod NumberLemmas
pub mod SignLemmas
pub mod LineLemmas
pub mod LaneLemmas
pub mod ScanLemmas
