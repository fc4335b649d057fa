use Rattle.std.proofs.Common.{arith}
use Rattle.qp_replay.specs.Remaining.{front}
use Rattle.qp_replay.proofs.RemainingLemmas.{lane-of}
use Rattle.qp_replay.proofs.remaining.Remaining.unfinished.Goals as goal

pub returns : goal.returns
returns c = λ n next.
    let st = c.args.self.now in
    let found = lane-of st.lanes n (front st n) next in
    c.loop-n.invariant n (omega (arith, found.0, c.loop-n-test.false, c.count-n-end.ensures)) next
