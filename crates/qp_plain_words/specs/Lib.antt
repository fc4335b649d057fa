pub mod Places
pub mod Queue
pub mod Sets
pub mod Ticked
