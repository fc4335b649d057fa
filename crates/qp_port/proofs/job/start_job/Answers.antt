use Rattle.std.proofs.Common.{refl}
use Rattle.qp_calls.proofs.Advancing.{advances-none}
use Rattle.qp_port.proofs.job.start_job.Goals as goal

pub returns-in-Nothing-clause-lane : goal.returns-in-Nothing-clause-lane
returns-in-Nothing-clause-lane g c = record { sys = refl; lane = refl; world = refl; plan = refl; happened = refl; serves = λ o. refl; advances = advances-none (g.O.Ops.lane c.args.ops.now) }
