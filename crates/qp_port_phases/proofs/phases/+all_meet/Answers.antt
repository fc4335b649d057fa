use Rattle.std.proofs.Common.{rules, sym}
use Rattle.qp_port_phases.proofs.Keeping.{together-first}
use Rattle.qp_port_phases.proofs.phases.+all_meet.Goals as goal

pub meet-requires-clause-table : goal.meet-requires-clause-table
meet-requires-clause-table g t c =
    let parts = c.in-Some.ensures.cases in
    let all = rw parts.0 at c.requires.together in
    record { world = sym all.0.world; sys = sym all.0.sys }

pub all_meet-requires : goal.all_meet-requires
all_meet-requires g t c κs within =
    let laws = g.met.T.PhaseLane in
    let parts = c.in-Some.ensures.cases in
    let all = rw parts.0 at c.requires.together in
    let ready = rw parts.0 at c.requires.others_ready in
    (search rules, (search rules, (c.meet.ensures.other_kept.ready, (ready.1, together-first g.T.PhaseLane.view (g.T.PhaseLane.view c.args.first.now) (g.T.PhaseLane.view c.meet.new.other) (laws.same_table _ _ c.meet.ensures.other_kept.same) c.in-Some.rest.now all.1))))
