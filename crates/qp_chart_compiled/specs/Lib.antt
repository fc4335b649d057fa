-- The definitions of compiled charts.
pub mod AsTask
pub mod Codes
pub mod Rows
pub mod Compiled
pub mod Building
pub mod Within
