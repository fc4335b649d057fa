-- What a lane above names of the one that is wrapped.
pub use Rattle.qp_shared.specs.Lane.{lane_view}
