use Rattle.std.proofs.Common.{sym}
use Rattle.qp_port_qk.proofs.Turning.{may-pass}
use Rattle.qp_port_qk.specs.Workers.{qk-same-itself}
use Rattle.qp_port_qk.proofs.worker.QkWorkerPhaseLane.pass_settle.Goals as goal

pub returns-then-is_idle-clause-ready : goal.returns-then-is_idle-clause-ready
returns-then-is_idle-clause-ready g c =
    let lane = g.W.Ops.lane in
    let x = c.args.self.now in
    let passed = c.pass_job-passed in
    may-pass g.W.World.acts x.sys.now x.budget x.turn c.turn_by-self.result passed.result x.job passed.new.job (lane x.lane) (lane passed.new.ops) c.requires.ready (sym c.if-is_idle.ensures) passed.ensures.stands passed.ensures.feeds c.turn_by-self.ensures

pub returns-then-is_short-clause-same : goal.returns-then-is_short-clause-same
returns-then-is_short-clause-same g c = let x = c.args.self.now in qk-same-itself x.sys.now x.budget x.job (g.W.Ops.lane x.lane)

pub returns-clause-same : goal.returns-clause-same
returns-clause-same g c = let x = c.args.self.now in qk-same-itself x.sys.now x.budget x.job (g.W.Ops.lane x.lane)
