pub mod BlockCalls
pub mod BookLemmas
pub mod Calling
pub mod EventCalls
pub mod Few
pub mod FreshLemmas
pub mod Growth
pub mod Holding
pub mod Mays
pub mod NoteCalls
pub mod RepeatFacts
pub mod RepeatHolds
pub mod QueueCalls
pub mod SignalCalls
pub mod Stopping
pub mod TimerCalls
pub mod Turns
pub mod EmptyQueues
mod QueueTable
mod SignalTable
mod TimerTable
mod BlockTable
