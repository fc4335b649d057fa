pub mod Counts
pub mod DirShelf
pub mod Gathering
pub mod Limits
pub mod MemShelf
pub mod MemSink
pub mod Shelf
pub mod Sink
