use Rattle.qp_kernel_runs.proofs.Finishing.{sim-ends}
use Rattle.qp_kernel_runs.proofs.world.SimWorld.finish.Goals as goal

pub returns : goal.returns
returns c = sim-ends c.args.self c.finish.result c.finish.ensures
