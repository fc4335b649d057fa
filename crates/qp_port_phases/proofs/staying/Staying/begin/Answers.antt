use Rattle.qp_port_phases.proofs.Counting.{cause-same}
use Rattle.qp_port_phases.proofs.GoingOn.{first-none}
use Rattle.qp_port_phases.proofs.Keeping.{keep-none}
use Rattle.qp_port_phases.proofs.staying.Staying.begin.Goals as goal

pub returns-clause-kept : goal.returns-clause-kept
returns-clause-kept g c =
    let laws = g.met.T.PhaseLane in
    let parts = c.in-Some.ensures.cases in
    let ready = rw parts.0 at c.requires in
    rw parts.0 (c.on_round.ensures.kept, keep-none g.T.Worker.ready g.T.PhaseLane.same g.T.PhaseLane.waits g.T.PhaseLane.remains g.T.PhaseLane.numbers laws.same_itself _ ready.1)

pub returns-clause-called : goal.returns-clause-called
returns-clause-called g c =
    let parts = c.in-Some.ensures.cases in
    rw parts.0 c.on_round.ensures.called

pub returns-clause-cause : goal.returns-clause-cause
returns-clause-cause g c cause =
    let parts = c.in-Some.ensures.cases in
    let was = rw parts.0 at cause in
    cause-same g.T.PhaseLane.numbers g.T.PhaseLane.view c.args.objects.now _ _ _ c.on_round.ensures.kept.numbers_still c.on_round.ensures.still was

pub returns-in_default-clause-kept : goal.returns-in_default-clause-kept
returns-in_default-clause-kept g c =
    let laws = g.met.T.PhaseLane in
    keep-none g.T.Worker.ready g.T.PhaseLane.same g.T.PhaseLane.waits g.T.PhaseLane.remains g.T.PhaseLane.numbers laws.same_itself _ c.requires

pub returns-in_default-clause-called : goal.returns-in_default-clause-called
returns-in_default-clause-called g c = first-none _ _ _ c.in_default.ensures.cases
