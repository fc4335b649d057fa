pub mod NumberLemmas
pub mod NumberReads
pub mod PushLemmas
pub mod RecordLemmas
pub mod SkipLemmas
pub mod StepLemmas
pub mod TailLemmas
