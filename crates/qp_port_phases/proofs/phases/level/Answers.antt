use Rattle.std.proofs.Common.{◌∙◌, ap, arith}
use Rattle.qp_port_phases.proofs.Keeping.{keep-ready, keep-same, keep-then, kept-then, together-first, together-others}
use Rattle.qp_port_phases.proofs.Floors.{level-none, told-then, under-before}
use Rattle.qp_port_phases.proofs.phases.level.Goals as goal

pub all_meet-requires-clause-others_ready : goal.all_meet-requires-clause-others_ready
all_meet-requires-clause-others_ready g c = keep-ready g.T.Worker.ready g.T.PhaseLane.same g.T.PhaseLane.waits g.T.PhaseLane.remains g.T.PhaseLane.numbers _ _ c.meet_all.ensures.others

pub all_meet-requires-clause-together : goal.all_meet-requires-clause-together
all_meet-requires-clause-together g c =
    let laws = g.met.T.PhaseLane in
    let view = g.T.PhaseLane.view in
    let parts = c.in-Some.ensures.cases in
    let all = rw parts.0 at c.requires.together in
    let kept = keep-same g.T.Worker.ready g.T.PhaseLane.same g.T.PhaseLane.waits g.T.PhaseLane.remains g.T.PhaseLane.numbers _ _ c.meet_all.ensures.others in
    together-first view (view c.in-Some.first.now) (view c.meet_all.new.first) (laws.same_table _ _ c.meet_all.ensures.first.same) c.meet_all.new.others
    (together-others view g.T.PhaseLane.same laws.same_table (view c.in-Some.first.now) _ _ kept all)

pub returns-in_default-clause-level : goal.returns-in_default-clause-level
returns-in_default-clause-level g c = level-none g.T.PhaseLane.view c.args.workers.now c.in_default.ensures.cases

pub returns-clause-kept : goal.returns-clause-kept
returns-clause-kept g c =
    let laws = g.met.T.PhaseLane in
    let parts = c.in-Some.ensures.cases in
    rw parts.0 (
      kept-then g.T.Worker.ready g.T.PhaseLane.same g.T.PhaseLane.waits g.T.PhaseLane.remains g.T.PhaseLane.numbers laws.same_still _ _ _ c.meet_all.ensures.first c.all_meet.ensures.first,
      keep-then g.T.Worker.ready g.T.PhaseLane.same g.T.PhaseLane.waits g.T.PhaseLane.remains g.T.PhaseLane.numbers laws.same_still _ _ _ c.meet_all.ensures.others c.all_meet.ensures.others,
    )

pub returns-clause-level : goal.returns-clause-level
returns-clause-level g c =
    let laws = g.met.T.PhaseLane in
    let view = g.T.PhaseLane.view in
    let parts = c.in-Some.ensures.cases in
    let kept = keep-same g.T.Worker.ready g.T.PhaseLane.same g.T.PhaseLane.waits g.T.PhaseLane.remains g.T.PhaseLane.numbers _ _ c.meet_all.ensures.others in
    rw parts.0 (record {
      floor = (view c.meet_all.new.first).mark;
      under = (c.meet_all.ensures.rises, under-before view g.T.PhaseLane.same laws.same_advances (view c.meet_all.new.first).mark _ _ kept c.meet_all.ensures.met);
      over = ((λ w. let e = ap (λ v. v.mark w) c.all_meet.ensures.still in omega (arith, e)), c.all_meet.ensures.over);
      told = (ap (λ v. v.told) c.all_meet.ensures.still ∙ c.meet_all.ensures.told, told-then view _ _ _ c.meet_all.ensures.stay c.all_meet.ensures.stay);
    })
