use Rattle.qp_port_phases.proofs.Keeping.{kept-then}
use Rattle.qp_port_phases.proofs.staying.decide.Goals as goal

pub returns : goal.returns
returns g c =
    let then = kept-then g.T.Worker.ready g.T.PhaseLane.same g.T.PhaseLane.waits g.T.PhaseLane.remains g.T.PhaseLane.numbers g.met.T.PhaseLane.same_still in
    then _ _ _ (then _ _ _ c.stopped.ensures.kept c.wish_for_entries.ensures) c.on_round.ensures.kept
