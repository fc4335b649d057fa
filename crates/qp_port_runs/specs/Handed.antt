-- What a run above names of the crates below.
pub use Rattle.qp_kernel_end.specs.Rests.{AreRestsIn}
pub use Rattle.qp_port.specs.Ends.{HasRun}
pub use Rattle.qp_port.specs.Rows.{AreNew, AreNewLanes}
pub use Rattle.qp_port_lanes.specs.Workers.{AreSameLanes}
pub use Rattle.qp_port_law.specs.Sealed.{SealsLanes}
pub use Rattle.qp_port_law.specs.ThreadRun.{IsThreadRun}
pub use Rattle.qp_shared.specs.Lane.{lane_view}
pub use Rattle.qp_shared.specs.Starting.{serves_one}
pub use Rattle.qp_shared.specs.WasSealed.{WasSealedFor}
