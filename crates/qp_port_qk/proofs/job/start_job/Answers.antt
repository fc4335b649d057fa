use Rattle.std.proofs.Common.{refl}
use Rattle.qp_calls.proofs.Advancing.{advances-none}
use Rattle.qp_port_qk.proofs.job.start_job.Goals as goal

pub returns-in-Source-clause-lane : goal.returns-in-Source-clause-lane
returns-in-Source-clause-lane g c = record { sys = refl; lane = refl; world = refl; plan = refl; happened = refl; serves = λ o. refl; advances = advances-none (g.O.Ops.lane c.args.ops.now) }
