use Rattle.std.proofs.Common.{rules}
use Rattle.qp_port_phases.proofs.Keeping.{together-first}
use Rattle.qp_port_phases.proofs.phases.+meet_all.Goals as goal

pub meet_all-requires : goal.meet_all-requires
meet_all-requires g t c κs within =
    let laws = g.met.T.PhaseLane in
    let parts = c.in-Some.ensures.cases in
    let all = rw parts.0 at c.requires.together in
    let ready = rw parts.0 at c.requires.others_ready in
    (search rules, (search rules, (c.meet.ensures.kept.ready, (ready.1, together-first g.T.PhaseLane.view (g.T.PhaseLane.view c.args.first.now) (g.T.PhaseLane.view c.meet.new.self) (laws.same_table _ _ c.meet.ensures.kept.same) c.in-Some.rest.now all.1))))
