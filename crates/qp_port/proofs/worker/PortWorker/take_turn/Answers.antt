use Rattle.qp_port.specs.Workers.{same-itself}
use Rattle.qp_port.proofs.worker.PortWorker.take_turn.Goals as goal

pub returns-else-is_idle-clause-same : goal.returns-else-is_idle-clause-same
returns-else-is_idle-clause-same g c = let x = c.args.self.now in same-itself x.sys.now x.budget x.job (g.O.Ops.lane x.lane)
