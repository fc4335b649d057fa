pub mod Counting
pub mod Quiet
pub mod CordLemmas
pub mod CrossingLemmas
