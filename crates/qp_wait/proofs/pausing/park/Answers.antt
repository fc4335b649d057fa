use Rattle.std.proofs.Common.{subst}
use Rattle.qp_model.specs.History.{lane_items}
use Rattle.qp_wait.specs.Lane.{bell_view}
use Rattle.qp_wait.specs.Looking.{IsLastLookAt}
use Rattle.qp_wait.proofs.LastLook.{told-look, told-none}
use Rattle.qp_wait.proofs.Parts.{parks-by}
use Rattle.qp_wait.proofs.pausing.park.Goals as goal

pub unreachable-requires : goal.unreachable-requires
unreachable-requires g c =
    let none = subst (IsLastLookAt c.args.me (lane_items c.records.result.now)) c.in-None.is c.last_look.ensures in
    told-none c.args.me (bell_view c.args.lane.now).told c.records.result.now c.records.ensures none c.requires.look.0 c.requires.look.1

pub returns : goal.returns
returns g c =
    let look = told-look c.args.me (bell_view c.args.lane.now).told c.records.result.now c.in-Some.place c.records.ensures (subst (IsLastLookAt c.args.me (lane_items c.records.result.now)) c.in-Some.is c.last_look.ensures) in
    parks-by c.args.lane.now c.park.new.self c.park.ensures.lane c.args.me c.in-Some.place c.park.result look c.park.ensures.parked c.park.ensures.refused
