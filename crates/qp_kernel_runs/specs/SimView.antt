-- What contracts see of a world of `sim`.
use Rattle.qp_calls.specs.LaneView.{LaneView}
use Rattle.qp_plain.specs.WorldView.{world_view}
use Rattle.qp_kernel_runs.specs.declared.world.SimWorld.{SimWorld}
use Rattle.qp_kernel_runs.specs.Seating.{seated}

-- lane 0
abbrev pub sim_view : SimWorld → LaneView
sim_view w = seated w.stim.now w.done.list (world_view w.plain)
