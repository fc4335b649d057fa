use Rattle.std.proofs.Common.{rules}
use Rattle.qp_port_phases.proofs.Counting.{tries-more}
use Rattle.qp_port_phases.proofs.Keeping.{together-first}
use Rattle.qp_port_phases.proofs.phases.+pass_all.Goals as goal

pub pass_all-more-requires : goal.pass_all-more-requires
pass_all-more-requires g t c κs within =
    let laws = g.met.T.PhaseLane in
    let parts = c.in-Some.ensures.cases in
    let all = rw parts.0 at c.requires.together in
    let ready = rw parts.0 at c.requires.others_ready in
    (search rules, (search rules, (c.pass_one-passed.ensures.first.ready, (ready.1, together-first g.T.PhaseLane.view (g.T.PhaseLane.view c.args.first.now) (g.T.PhaseLane.view c.pass_one-passed.new.first) (laws.same_table _ _ c.pass_one-passed.ensures.first.same) c.in-Some.rest.now all.1))))

pub returns-clause-settles : goal.returns-clause-settles
returns-clause-settles g t c =
    let parts = c.in-Some.ensures.cases in
    rw (parts.0, c.is_either.ensures) (tries-more g.T.PhaseLane.numbers c.pass_one-passed.result c.pass_all-more.result _ _ _ _ c.pass_one-passed.ensures.settles c.pass_all-more.ensures.settles)
