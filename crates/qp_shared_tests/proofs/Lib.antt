pub mod PoolLemmas
pub mod SameLanes
pub mod LaneLemmas
pub mod KernelLemmas
pub mod JudgeLemmas
pub mod LampLemmas
pub mod Sets
