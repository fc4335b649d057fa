pub mod CutLemmas
pub mod HomeLaneLemmas
pub mod KnownEventLemmas
pub mod KnownFactLemmas
pub mod KnownTableLemmas
pub mod ToldLemmas
