use Rattle.std.proofs.Common.{arith}
use Rattle.qp_replay.specs.Remaining.{front}
use Rattle.qp_replay.proofs.RemainingLemmas.{lane-of}
use Rattle.qp_replay.proofs.remaining.Remaining.lowest.Goals as goal

pub returns-clause-free : goal.returns-clause-free
returns-clause-free c = λ n go.
    let st = c.args.self.now in
    let found = lane-of st.lanes n (front st n) go.next in
    c.loop-lane.invariant n (omega (arith, found.0, c.loop-lane-test.false, c.count-lane-end.ensures)) go
