-- What proofs of a run name of the lanes of its turns.
pub use Rattle.qp_wait.proofs.CrossingLemmas.{bell-lane-send}
pub use Rattle.qp_wait.proofs.Parking.{parked-still}
