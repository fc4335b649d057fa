use Rattle.qp_core.proofs.ApplyLemmas.{step-at-made}
use Rattle.qp_core.proofs.splits.step_at.Goals as goal

pub returns : goal.returns
returns c = λ x here. step-at-made c.args.sys.now c.args.lanes c.args.words.now c.args.seats.now c.put-seat.new.seats c.put.new.seats c.args.at c.put-seat.result c.bare.result c.step-made.new.seat x c.args.op.now c.step-made.new.words c.step-made.result
    c.put-seat.ensures.former c.put-seat.ensures.puts c.put.ensures.puts c.step-made.ensures.one c.step-made.ensures.kept here
