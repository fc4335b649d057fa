use Rattle.qp_port_phases.proofs.Counting.{keep-few}
use Rattle.qp_port_phases.proofs.Keeping.{keep-ready, keep-same, objects-still, same-then, together-first, together-others}
use Rattle.qp_port_phases.proofs.phases.between.Goals as goal

pub prepare-requires-clause-others_ready : goal.prepare-requires-clause-others_ready
prepare-requires-clause-others_ready g c = keep-ready g.T.Worker.ready g.T.PhaseLane.same g.T.PhaseLane.waits g.T.PhaseLane.remains g.T.PhaseLane.numbers _ _ c.look.ensures.others

pub prepare-requires-clause-together : goal.prepare-requires-clause-together
prepare-requires-clause-together g c =
    let laws = g.met.T.PhaseLane in
    let view = g.T.PhaseLane.view in
    let parts = c.in-Some.ensures.cases in
    let all = rw parts.0 at c.requires.table in
    let kept = keep-same g.T.Worker.ready g.T.PhaseLane.same g.T.PhaseLane.waits g.T.PhaseLane.remains g.T.PhaseLane.numbers _ _ c.look.ensures.others in
    together-first view (view c.in-Some.first.now) (view c.look.new.first) (laws.same_table _ _ c.look.ensures.first.same) c.look.new.others
    (together-others view g.T.PhaseLane.same laws.same_table (view c.in-Some.first.now) _ _ kept all.0)

pub prepare-requires-clause-objects : goal.prepare-requires-clause-objects
prepare-requires-clause-objects g c =
    let laws = g.met.T.PhaseLane in
    let parts = c.in-Some.ensures.cases in
    let all = rw parts.0 at c.requires.table in
    objects-still (g.T.PhaseLane.view c.in-Some.first.now) (g.T.PhaseLane.view c.look.new.first) c.args.objects.now (laws.same_table _ _ c.look.ensures.first.same) all.1

pub prepare-requires-clause-few : goal.prepare-requires-clause-few
prepare-requires-clause-few g c =
    let parts = c.in-Some.ensures.cases in
    let few = rw parts.0 at c.requires.few in
    keep-few g.T.PhaseLane.numbers g.T.Worker.ready g.T.PhaseLane.same g.T.PhaseLane.waits g.T.PhaseLane.remains _ c.in-Some.first.now c.look.new.first c.in-Some.others.now c.look.new.others c.look.ensures.first.numbers_still c.look.ensures.others few

pub returns-in-Some-look-clause-ready : goal.returns-in-Some-look-clause-ready
returns-in-Some-look-clause-ready g c =
    let kept = c.look.ensures in
    (kept.first.ready, keep-ready g.T.Worker.ready g.T.PhaseLane.same g.T.PhaseLane.waits g.T.PhaseLane.remains g.T.PhaseLane.numbers _ _ kept.others)

pub returns-in-Some-look-clause-same : goal.returns-in-Some-look-clause-same
returns-in-Some-look-clause-same g c =
    let parts = c.in-Some.ensures.cases in
    let kept = c.look.ensures in
    rw parts.0 (kept.first.same, keep-same g.T.Worker.ready g.T.PhaseLane.same g.T.PhaseLane.waits g.T.PhaseLane.remains g.T.PhaseLane.numbers _ _ kept.others)

pub returns-in-Some-look-clause-few : goal.returns-in-Some-look-clause-few
returns-in-Some-look-clause-few g c =
    let parts = c.in-Some.ensures.cases in
    let few = rw parts.0 at c.requires.few in
    keep-few g.T.PhaseLane.numbers g.T.Worker.ready g.T.PhaseLane.same g.T.PhaseLane.waits g.T.PhaseLane.remains _ c.in-Some.first.now c.look.new.first c.in-Some.others.now c.look.new.others c.look.ensures.first.numbers_still c.look.ensures.others few

pub returns-then-prepare-clause-same : goal.returns-then-prepare-clause-same
returns-then-prepare-clause-same g c =
    let laws = g.met.T.PhaseLane in
    let parts = c.in-Some.ensures.cases in
    let kept = c.look.ensures in
    let went = c.prepare.ensures in
    rw parts.0 (
      laws.same_still _ _ _ kept.first.same went.first.same,
      same-then g.T.PhaseLane.same laws.same_still _ _ _ (keep-same g.T.Worker.ready g.T.PhaseLane.same g.T.PhaseLane.waits g.T.PhaseLane.remains g.T.PhaseLane.numbers _ _ kept.others) went.others,
    )

pub returns-else-prepare-clause-same : goal.returns-else-prepare-clause-same
returns-else-prepare-clause-same g c =
    let laws = g.met.T.PhaseLane in
    let parts = c.in-Some.ensures.cases in
    let kept = c.look.ensures in
    let went = c.prepare.ensures in
    rw parts.0 (
      laws.same_still _ _ _ kept.first.same went.first.same,
      same-then g.T.PhaseLane.same laws.same_still _ _ _ (keep-same g.T.Worker.ready g.T.PhaseLane.same g.T.PhaseLane.waits g.T.PhaseLane.remains g.T.PhaseLane.numbers _ _ kept.others) went.others,
    )
