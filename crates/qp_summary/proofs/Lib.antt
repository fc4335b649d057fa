-- Lemmas of the summary.
pub mod SummaryLemmas
pub mod ComingLemmas
pub mod KnownLemmas
pub mod CountLemmas
