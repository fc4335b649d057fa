-- What a turn above names of the lane that is wrapped.
pub use Rattle.qp_wait_rings.specs.Handed.{lane_view}
pub use Rattle.qp_wait_rings.specs.Lane.{ringing_view}
