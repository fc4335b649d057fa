-- What proofs of a turn name of the lane that is wrapped.
pub use Rattle.qp_wait_rings.proofs.Quiet.{Grown}
