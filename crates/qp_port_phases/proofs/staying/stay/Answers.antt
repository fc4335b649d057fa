use Rattle.qp_port_phases.proofs.GoingOn.{stays-then, stays-turn}
use Rattle.qp_port_phases.proofs.staying.stay.Goals as goal

pub returns-in-Some : goal.returns-in-Some
returns-in-Some g c = stays-then g.T.Worker.ready g.T.PhaseLane.same g.T.PhaseLane.numbers g.T.Worker.turned c.args.lane.now c.turn.new.self c.go_on.new.lane c.turn.ensures c.go_on.ensures

pub returns-in-None : goal.returns-in-None
returns-in-None g c =
    let laws = g.met.T.PhaseLane in
    stays-turn g.T.Worker.ready g.T.PhaseLane.same g.T.PhaseLane.numbers g.T.Worker.turned laws.same_itself c.args.lane.now c.turn-in-None.new.self c.turn-in-None.ensures (laws.went c.args.lane.now c.turn-in-None.new.self c.turn-in-None.ensures).0
