mod AnswerLaw
pub mod VerdictLemmas
mod FormLemmas
mod EndingLemmas
mod PrintedLemmas
mod ConversionLemmas
mod CheckLemmas
mod ReplayLemmas
mod CompleteLemmas
mod AbleLemmas
mod RunLemmas
pub mod SealLemmas
pub mod CallLemmas
mod OutputLaw
