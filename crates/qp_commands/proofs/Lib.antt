-- Lemmas of words and of what they ask for.
mod WordApps
mod WordFound
mod WordCommands
mod WordNames
mod WordCalls
pub mod LimitLemmas
