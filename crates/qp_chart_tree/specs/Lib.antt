-- The definitions of plans.
pub mod Plans
