pub mod CoreStep
pub mod Ops
pub mod Laws
