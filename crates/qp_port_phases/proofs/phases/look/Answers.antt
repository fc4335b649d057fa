use Rattle.std.proofs.Common.{◌∙◌, sym}
use Rattle.qp_port_phases.specs.Quiet.{AllBelow}
use Rattle.qp_port_phases.proofs.Keeping.{below-rises, found-other, found-seven, kept-then, objects-still, unstopped-still}
use Rattle.qp_port_phases.proofs.phases.look.Goals as goal

pub are_empty-requires-clause-objects : goal.are_empty-requires-clause-objects
are_empty-requires-clause-objects g c =
    let laws = g.met.T.PhaseLane in
    let same = laws.same_still _ _ _ c.meet_all.ensures.first.same c.stopped.ensures.kept.same in
    objects-still (g.T.PhaseLane.view c.args.first.now) (g.T.PhaseLane.view c.stopped.new.self) c.args.objects.now (laws.same_table _ _ same) c.requires.objects

pub returns-then-not-any_left-clause-idle : goal.returns-then-not-any_left-clause-idle
returns-then-not-any_left-clause-idle g c said =
    let view = g.T.PhaseLane.view in
    let met : AllBelow view (view c.stopped.new.self) c.meet_all.new.others = rw c.in-None.ensures.stopped.0 c.meet_all.ensures.met in
    record {
      below = below-rises view (view c.stopped.new.self) (view c.are_empty.new.lane) c.are_empty.ensures.rises c.meet_all.new.others met;
      empty = c.are_empty.ensures.empty c.if-are_empty.true;
      none = sym c.any_left.ensures ∙ c.if-not-any_left.true;
      unstopped = unstopped-still (view c.meet_all.new.first) (view c.stopped.new.self) (view c.are_empty.new.lane) c.in-None.ensures.stopped c.are_empty.ensures.codes;
    }

pub returns-in-Some-eq7-clause-memory : goal.returns-in-Some-eq7-clause-memory
returns-in-Some-eq7-clause-memory g c said = found-seven _ _ _ c.in-Some-eq7.field-0 c.meet_all.ensures.codes c.in-Some-eq7.ensures.stopped c.in-Some-eq7.field-0-test

pub returns-in-Some-clause-stopped : goal.returns-in-Some-clause-stopped
returns-in-Some-clause-stopped g c said = found-other _ _ _ c.in-Some.field-0 c.meet_all.ensures.codes c.in-Some.ensures.stopped c.in-Some.field-0-test.1

pub returns-then-not-any_left-clause-first : goal.returns-then-not-any_left-clause-first
returns-then-not-any_left-clause-first g c =
    let laws = g.met.T.PhaseLane in
    let kept = kept-then g.T.Worker.ready g.T.PhaseLane.same g.T.PhaseLane.waits g.T.PhaseLane.remains g.T.PhaseLane.numbers laws.same_still in
    kept _ _ _ (kept _ _ _ c.meet_all.ensures.first c.stopped.ensures.kept) c.are_empty.ensures.kept

pub returns-clause-first : goal.returns-clause-first
returns-clause-first g c =
    let laws = g.met.T.PhaseLane in
    let kept = kept-then g.T.Worker.ready g.T.PhaseLane.same g.T.PhaseLane.waits g.T.PhaseLane.remains g.T.PhaseLane.numbers laws.same_still in
    kept _ _ _ (kept _ _ _ c.meet_all.ensures.first c.stopped.ensures.kept) c.are_empty.ensures.kept
