use Rattle.std.proofs.Common.{ap, refl, subst, sym}
use Rattle.qp_calls.specs.LaneView.{LaneView}
use Rattle.qp_port_lanes.proofs.Seeing.{seen-met}
use Rattle.qp_port_qk.specs.Numbers.{numbers_of}
use Rattle.qp_port_qk.specs.Workers.{IsSameQkWorker, QkMayTurn, qk-same-itself}
use Rattle.qp_port_qk.proofs.Seeing.{may-turn_still, numbers-still, same-worker}
use Rattle.qp_port_qk.proofs.worker.QkWorkerPhaseLane.meet.Goals as goal

pub returns-clause-kept : goal.returns-clause-kept
returns-clause-kept g c =
    let x = c.args.self.now in
    let v = g.W.Ops.lane x.lane in
    let w = g.W.Ops.lane c.meet.new.self in
    let more = seen-met v (g.W.Ops.lane c.args.other.now.lane) w c.meet.ensures.meets in
    record {
      ready = may-turn_still v w more g.W.World.acts x.sys.now x.budget x.turn x.job c.requires.ready;
      same = same-worker x.sys.now x.budget x.job v w more;
      waits_still = refl;
      remains_still = refl;
      numbers_still = numbers-still v w more x.sys.now x.budget x.turn x.job;
    }

pub returns-clause-other_kept : goal.returns-clause-other_kept
returns-clause-other_kept g c =
    let y = c.args.other.now in
    let v : LaneView = g.W.Ops.lane y.lane in
    record {
      ready = subst (λ (u : LaneView). QkMayTurn g.W.World.acts y.sys.now y.budget y.turn y.job u) (sym c.meet.ensures.other) c.requires.other_ready;
      same = subst (λ (u : LaneView). IsSameQkWorker y.sys.now y.sys.now y.budget y.budget y.job y.job v u) (sym c.meet.ensures.other) (qk-same-itself y.sys.now y.budget y.job v);
      waits_still = refl;
      remains_still = refl;
      numbers_still = ap (λ (u : LaneView). numbers_of y.sys.now y.budget y.turn y.job u) c.meet.ensures.other;
    }
