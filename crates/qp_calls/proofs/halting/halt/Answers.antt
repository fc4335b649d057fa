use Rattle.std.proofs.Common.{◌≤◌, ◌+◌, length, arith, subst}
use Rattle.qp_calls.specs.Clauses.{IsFault}
use Rattle.qp_calls.proofs.NoteLemmas.{full-is, spill-may, spill-stop, spilled}
use Rattle.qp_calls.proofs.halting.halt.Goals as goal

pub returns-in-Memory : goal.returns-in-Memory
returns-in-Memory g c =
    let lane = g.O.Ops.lane in
    let room : length (lane c.args.ops.now).told + 8 ≤ 1000000 = subst (λ f. IsFault (lane c.args.ops.now) f) c.in-Memory.is c.requires.fault in
    record { room = omega (arith, room); stops = c.stop.ensures }

pub note-requires : goal.note-requires
note-requires g c =
    let full = full-is (g.O.Ops.lane c.args.ops.now) c.args.fault c.in-LaneFull.len c.in-LaneFull.is c.requires.fault in
    spill-may c.in-LaneFull.len c.spill.result (g.O.Ops.lane c.args.ops.now) c.spill.ensures full.0 full.1 c.requires.spills

pub stop-requires-in-LaneFull : goal.stop-requires-in-LaneFull
stop-requires-in-LaneFull g c =
    let lane = g.O.Ops.lane in
    let full = full-is (lane c.args.ops.now) c.args.fault c.in-LaneFull.len c.in-LaneFull.is c.requires.fault in
    spill-stop _ (lane c.args.ops.now) (lane c.note.new.self) (spilled c.in-LaneFull.len c.spill.result (lane c.args.ops.now) (lane c.note.new.self) c.spill.ensures full.0 c.note.ensures.grows)

pub returns-in-LaneFull : goal.returns-in-LaneFull
returns-in-LaneFull g c =
    let lane = g.O.Ops.lane in
    let full = full-is (lane c.args.ops.now) c.args.fault c.in-LaneFull.len c.in-LaneFull.is c.requires.fault in
    record {
      full = lane c.note.new.self;
      few = omega (arith, full.0, full.1);
      spills = spilled c.in-LaneFull.len c.spill.result (lane c.args.ops.now) (lane c.note.new.self) c.spill.ensures full.0 c.note.ensures.grows;
      stops = c.stop-in-LaneFull.ensures;
    }
