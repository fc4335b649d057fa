use Rattle.std.proofs.Common.{sym, ◌∙◌}
use Rattle.qp_port_qk.proofs.Ending.{starts-end}
use Rattle.qp_port_qk.proofs.Turning.{may-start}
use Rattle.qp_port_qk.specs.Alone.{qk-idle-started, qk-start-alone}
use Rattle.qp_port_qk.proofs.worker.QkWorkerQkStarts.start.Goals as goal

pub returns-clause-ended : goal.returns-clause-ended
returns-clause-ended g c =
    let at = c.args.self.now in
    record {
      sound = c.requires.sound;
      ends = starts-end at.sys.now at.budget c.requires.sound c.start_job-self.result c.start_job-self.new.job (g.W.Ops.lane c.start_job-self.new.ops) c.start_job-self.ensures.starts;
      fed = λ long. c.start_job-self.ensures.feeds long c.requires.fed;
    }

pub returns-clause-alone : goal.returns-clause-alone
returns-clause-alone g c = qk-start-alone c.args.self.now.sys.now c.start_job-self.result c.start_job-self.new.job (g.W.Ops.lane c.start_job-self.new.ops) c.start_job-self.ensures.alone

pub returns-clause-started : goal.returns-clause-started
returns-clause-started g c said = qk-idle-started c.args.self.now.sys.now c.start_job-self.result c.start_job-self.new.job (g.W.Ops.lane c.start_job-self.new.ops) c.start_job-self.ensures.alone (sym c.is_idle.ensures ∙ said)

pub returns-clause-ready : goal.returns-clause-ready
returns-clause-ready g c said =
    let lane = g.W.Ops.lane in
    let x = c.args.self.now in
    let began = c.start_job-self in
    may-start g.W.World.acts x.sys.now x.budget x.turn began.result x.job began.new.job (lane x.lane) (lane began.new.ops) c.requires (sym c.is_idle.ensures ∙ said) began.ensures.starts began.ensures.feeds
