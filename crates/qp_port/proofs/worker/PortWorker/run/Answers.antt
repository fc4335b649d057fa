use Rattle.qp_port.proofs.Standing.{may-turn}
use Rattle.qp_port.proofs.worker.PortWorker.run.Goals as goal

pub returns-clause-ready : goal.returns-clause-ready
returns-clause-ready g c =
    let lane = g.O.Ops.lane in
    let x = c.args.self.now in
    let ran = c.run_job-self in
    may-turn x.sys.now x.budget x.turn ran.result x.job ran.new.job (lane x.lane) (lane ran.new.ops) c.requires.ready c.requires.idle ran.ensures.stands ran.ensures.feeds
