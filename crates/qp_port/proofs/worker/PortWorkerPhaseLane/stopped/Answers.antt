use Rattle.std.proofs.Common.{refl}
use Rattle.qp_port_lanes.proofs.Seeing.{seen-stopped}
use Rattle.qp_port.proofs.Staying.{may-turn_still, same-worker}
use Rattle.qp_port.proofs.worker.PortWorkerPhaseLane.stopped.Goals as goal

pub returns-clause-kept : goal.returns-clause-kept
returns-clause-kept g c =
    let lane = g.O.Ops.lane in
    let x = c.args.self.now in
    let v = lane x.lane in
    let w = lane c.stopped.new.self in
    let more = seen-stopped v w c.stopped.result c.stopped.ensures in
    record {
      ready = may-turn_still x.sys.now x.budget x.turn x.job v w more c.requires.ready;
      same = same-worker x.sys.now x.budget x.job v w more;
      waits_still = refl;
      remains_still = refl;
      numbers_still = refl;
    }
