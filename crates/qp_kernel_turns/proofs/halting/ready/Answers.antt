use Rattle.std.proofs.Common.{◌∙◌, ap}
use Rattle.qp_calls.specs.Notes.{spills_told}
use Rattle.qp_kernel_turns.proofs.Ordered.{gives-up, readied}
use Rattle.qp_kernel_turns.proofs.halting.ready.Goals as goal

pub give_up-requires-clause-spills : goal.give_up-requires-clause-spills
give_up-requires-clause-spills g c = ap (λ u. spills_told u.told) (c.in-Err.ensures.refused ∙ c.in-None.ensures.0) ∙ c.requires

pub returns-in-Ok : goal.returns-in-Ok
returns-in-Ok g c =
    let lane = g.O.Ops.lane in
    let e = c.in-None.ensures in
    readied (lane c.args.ops.now) (lane c.stopped.new.self) (lane c.room.new.self) e.0 e.1 e.2 e.3 c.in-Ok.ensures.stays c.in-Ok.ensures.ok

pub returns-in-Err : goal.returns-in-Err
returns-in-Err g c =
    let lane = g.O.Ops.lane in
    gives-up (lane c.args.ops.now) (lane c.stopped.new.self) (lane c.room.new.self) (lane c.give_up.new.ops) c.give_up.result c.in-None.ensures.0 c.in-Err.ensures.refused c.give_up.ensures
