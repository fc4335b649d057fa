use Rattle.qp_port_phases.specs.Lanes.{AreObjects}
use Rattle.qp_port_phases.specs.Staying.{GoesOn}
use Rattle.qp_port_phases.proofs.staying.go_on.Given as goal

-- the same lane, which ended no row
abbrev pub invariant-loop : goal.invariant-loop
invariant-loop g l = GoesOn g.T.Worker.ready g.T.PhaseLane.same g.T.PhaseLane.numbers l.fn.lane l.lane × AreObjects (g.T.PhaseLane.view l.lane) l.objects
