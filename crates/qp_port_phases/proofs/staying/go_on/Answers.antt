use Rattle.qp_port_phases.proofs.GoingOn.{goes-then}
use Rattle.qp_port_phases.proofs.Keeping.{objects-still}
use Rattle.qp_port_phases.proofs.staying.go_on.Goals as goal

pub loop-preserved : goal.loop-preserved
loop-preserved g c =
    let laws = g.met.T.PhaseLane in
    let view = g.T.PhaseLane.view in
    let went = c.go_round.ensures in (
      goes-then g.T.Worker.ready g.T.PhaseLane.same g.T.PhaseLane.numbers laws.same_still c.args.lane.now c.loop.lane c.go_round.new.lane c.loop.invariant.0 went,
      objects-still (view c.loop.lane) (view c.go_round.new.lane) c.args.objects.now (laws.same_table c.loop.lane c.go_round.new.lane went.same) c.loop.invariant.1,
    )
