-- What a run names of the lanes of its turns.
pub use Rattle.qp_wait.specs.Wrapped.{lane_view, ringing_view}
pub use Rattle.qp_wait.specs.Lane.{IsNewBellLane, IsAway, OpensFor, SaysOne, bell_view}
pub use Rattle.qp_wait.specs.Parked.{HasParked}
pub use Rattle.qp_wait.specs.Rooted.{AreBellsOf, IsBellRootOf}
pub use Rattle.qp_wait.specs.Ropes.{AreRopes, IsRopeOf}
