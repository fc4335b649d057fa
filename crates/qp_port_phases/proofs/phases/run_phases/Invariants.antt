use Rattle.qp_port_phases.specs.Floors.{HasFloor}
use Rattle.qp_port_phases.specs.Lanes.{AreOneTable, SameEach}
use Rattle.qp_port_phases.specs.Rows.{HasFewRows, one_where}
use Rattle.qp_port_phases.specs.Turns.{AreReady}
use Rattle.qp_port_phases.proofs.phases.run_phases.Given as goal

-- the same lanes, which may take a turn
abbrev pub invariant-loop : goal.invariant-loop
invariant-loop g l =
    (goal.iterator-loop g).can_next l.iterator' × (goal.iterator-loop g).is_finite l.iterator'
    × AreReady g.T.Worker.ready l.workers × SameEach g.T.PhaseLane.same l.fn.workers l.workers × AreOneTable g.T.PhaseLane.view l.objects l.workers
    × HasFewRows g.T.PhaseLane.numbers (one_where l.begun) l.workers × HasFloor g.T.PhaseLane.view l.fn.workers l.workers
