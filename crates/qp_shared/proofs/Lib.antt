pub mod Ends
pub mod First
pub mod Serving
pub mod Roots
pub mod Meetings
pub mod Handing
pub mod Taken
pub mod CrossingLemmas
mod Carrying
