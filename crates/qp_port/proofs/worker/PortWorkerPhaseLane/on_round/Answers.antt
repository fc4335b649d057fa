use Rattle.std.proofs.Common.{refl, subst, sym}
use Rattle.qp_calls.specs.LaneView.{LaneView}
use Rattle.qp_port.specs.Workers.{IsSameWorker, MayTurn, same-itself}
use Rattle.qp_port.proofs.worker.PortWorkerPhaseLane.on_round.Goals as goal

pub returns-clause-kept : goal.returns-clause-kept
returns-clause-kept g c =
    let x = c.args.self.now in
    let v : LaneView = g.O.Ops.lane x.lane in
    record {
      ready = subst (λ (u : LaneView). MayTurn x.sys.now x.budget x.turn x.job u) (sym c.beside.ensures.still) c.requires.ready;
      same = subst (λ (u : LaneView). IsSameWorker x.sys.now x.sys.now x.budget x.budget x.job x.job v u) (sym c.beside.ensures.still) (same-itself x.sys.now x.budget x.job v);
      waits_still = refl;
      remains_still = refl;
      numbers_still = refl;
    }
