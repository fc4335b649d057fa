pub mod Between
pub mod Passes
pub mod Within
pub mod Later
pub mod Checked
pub mod SystemOf
pub mod Placed
pub mod SystemLaw
-- The definitions of the made system.
pub mod Files
pub mod Made
