use Rattle.std.proofs.Common.{rules}
use Rattle.qp_port_phases.proofs.Keeping.{objects-still}
use Rattle.qp_port_phases.proofs.looking.+are_empty.Goals as goal

pub are_empty-requires : goal.are_empty-requires
are_empty-requires g t c κs within =
    let laws = g.met.T.PhaseLane in
    let parts = c.in-Some.ensures.cases in
    let all = rw parts.0 at c.requires.objects in
    (search rules, (search rules, (c.is_empty.ensures.kept.ready, objects-still (g.T.PhaseLane.view c.args.lane.now) (g.T.PhaseLane.view c.is_empty.new.lane) c.in-Some.rest.now (laws.same_table _ _ c.is_empty.ensures.kept.same) all.1)))
