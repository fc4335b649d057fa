use Rattle.std.proofs.Common.{false, subst, sym}
use Rattle.qp_kernel_turns.specs.Lanes.{LaneHalts}
use Rattle.qp_port_lanes.specs.Turning.{HomeHalts}
use Rattle.qp_kernel_turns.specs.declared.halting.Halt.TheVariants as halt
use Rattle.qp_wait.specs.Wrapped.{ringing_view}
use Rattle.qp_wait.specs.Lane.{bell_view}
use Rattle.qp_wait.proofs.Waiting.{waits-said}
use Rattle.qp_wait.proofs.turning.wait_turn.Goals as goal

pub returns-in-Stopped-clause-goes : goal.returns-in-Stopped-clause-goes
returns-in-Stopped-clause-goes g c =
    let sys = c.args.sys.now in
    let me = c.args.home.now.me in
    let y = c.rounds.new.home in
    let here = subst (HomeHalts sys c.args.budget me y (bell_view c.rounds.new.lane)) c.in-Stopped.is c.in-Err.ensures.goes in
    subst (λ r. HomeHalts sys c.args.budget me y (ringing_view r) halt.Stopped) (sym c.farewell.ensures.ringing) here

pub returns-in-Stopped-clause-lane : goal.returns-in-Stopped-clause-lane
returns-in-Stopped-clause-lane g c =
    let x = bell_view c.args.lane.now in
    let here = subst (LaneHalts false x (bell_view c.rounds.new.lane)) c.in-Stopped.is c.in-Err.ensures.lane in
    subst (λ r. LaneHalts false x (ringing_view r) halt.Stopped) (sym c.farewell.ensures.ringing) here

pub returns-in-Stopped-clause-waits : goal.returns-in-Stopped-clause-waits
returns-in-Stopped-clause-waits g c = waits-said c.rounds.new.home.busy c.args.lane.now c.rounds.new.lane c.farewell.new.self c.in-Err.ensures.waits c.farewell.ensures

pub returns-in-Memory-clause-lane : goal.returns-in-Memory-clause-lane
returns-in-Memory-clause-lane g c =
    let x = bell_view c.args.lane.now in
    let here = subst (LaneHalts false x (bell_view c.rounds.new.lane)) c.in-Memory.is c.in-Err.ensures.lane in
    subst (λ r. LaneHalts false x (ringing_view r) halt.Memory) (sym c.farewell.ensures.ringing) here

pub returns-in-Memory-clause-waits : goal.returns-in-Memory-clause-waits
returns-in-Memory-clause-waits g c = waits-said c.rounds.new.home.busy c.args.lane.now c.rounds.new.lane c.farewell.new.self c.in-Err.ensures.waits c.farewell.ensures
