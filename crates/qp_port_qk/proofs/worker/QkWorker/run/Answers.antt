use Rattle.qp_port_qk.proofs.Turning.{may-turn}
use Rattle.qp_port_qk.proofs.worker.QkWorker.run.Goals as goal

pub returns-clause-ready : goal.returns-clause-ready
returns-clause-ready g c =
    let lane = g.W.Ops.lane in
    let x = c.args.self.now in
    let ran = c.run_job-self in
    may-turn g.W.World.acts x.sys.now x.budget x.turn ran.result x.job ran.new.job (lane x.lane) (lane ran.new.world) c.requires.ready c.requires.idle ran.ensures.stands ran.ensures.feeds
