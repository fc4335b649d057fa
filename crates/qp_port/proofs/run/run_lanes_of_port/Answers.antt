use Rattle.std.proofs.Common.{length, ap, arith}
use Rattle.qp_port.proofs.run.run_lanes_of_port.Goals as goal

pub run_lanes_of-requires-clause-sources : goal.run_lanes_of-requires-clause-sources
run_lanes_of-requires-clause-sources g c κs within =
    let made = c.in-Ok.ensures in
    let many = c.len-sources.ensures in
    let sources = ap length c.stim.view_is in
    omega (arith, made, many, sources)
