pub mod GatheringLemmas
pub mod MemShelfLemmas
pub mod SinkLemmas
