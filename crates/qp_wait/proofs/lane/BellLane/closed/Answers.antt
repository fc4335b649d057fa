use Rattle.std.proofs.Common.{◌+◌, ◌%◌, ◌^◌, arith, ap}
use Rattle.qp_wait.proofs.lane.BellLane.closed.Goals as goal

pub returns-clause-refusals : goal.returns-clause-refusals
returns-clause-refusals c =
    let l = c.args.self.now in
    ap (λ n. (n + l.closings.ended) % 2 ^ 64) l.ringing.rung.refused_is

pub returns-clause-seats : goal.returns-clause-seats
returns-clause-seats c =
    let l = c.args.self.now in
    let first = l.ringing.taken in
    let second = l.closings.taken in
    omega (arith, first, second)
