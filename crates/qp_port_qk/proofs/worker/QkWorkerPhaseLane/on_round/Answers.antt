use Rattle.std.proofs.Common.{refl}
use Rattle.qp_port_qk.specs.Workers.{qk-same-itself}
use Rattle.qp_port_qk.proofs.worker.QkWorkerPhaseLane.on_round.Goals as goal

pub returns-clause-kept : goal.returns-clause-kept
returns-clause-kept g c =
    let x = c.args.self.now in
    record {
      ready = c.requires.ready;
      same = qk-same-itself x.sys.now x.budget x.job (g.W.Ops.lane x.lane);
      waits_still = refl;
      remains_still = refl;
      numbers_still = refl;
    }
