use Rattle.std.proofs.Common.{◌∙◌, sym}
use Rattle.qp_port.specs.Alone.{idle-started, start-alone}
use Rattle.qp_port.proofs.Standing.{may-start}
use Rattle.qp_port.proofs.worker.PortWorkerStarts.start.Goals as goal

pub returns-clause-alone : goal.returns-clause-alone
returns-clause-alone g c = start-alone c.start_job-self.result c.start_job-self.new.job (g.O.Ops.lane c.start_job-self.new.ops) c.start_job-self.ensures.alone

pub returns-clause-started : goal.returns-clause-started
returns-clause-started g c said = idle-started c.start_job-self.result c.start_job-self.new.job (g.O.Ops.lane c.start_job-self.new.ops) c.start_job-self.ensures.alone (sym c.is_idle.ensures ∙ said)

pub returns-clause-ready : goal.returns-clause-ready
returns-clause-ready g c =
    let lane = g.O.Ops.lane in
    let x = c.args.self.now in
    let began = c.start_job-self in
    may-start x.sys.now x.budget x.turn began.result x.job began.new.job (lane x.lane) (lane began.new.ops) c.requires began.ensures.stands began.ensures.feeds
