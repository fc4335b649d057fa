use Rattle.std.proofs.Common.{true, false, inl, inr}
use Rattle.qp_port_phases.proofs.Keeping.{first-since}
use Rattle.qp_port.proofs.Rows.{few-rows, ready-left, same-then, table-still}
use Rattle.qp_port.proofs.starting.run_all.Goals as goal

pub run_phases-requires-clause-table : goal.run_phases-requires-clause-table
run_phases-requires-clause-table g c κs within =
    let laws = (g.met.T.PhaseLane g.world.𝓛 g.world.𝓜 g.world.𝓡 ((λ s x. x), (λ x. x), (λ x. x), λ x. x)) in
    table-still g.T.PhaseLane.view g.T.PhaseLane.same laws.same_table c.args.objects.now _ _ c.start_all.ensures.same c.requires.table

pub run_phases-requires-clause-begins : goal.run_phases-requires-clause-begins
run_phases-requires-clause-begins g c κs within =
    let laws = (g.met.T.Starts g.world.𝓛 g.world.𝓜 g.world.𝓡 ((λ s x. x), (λ x. x), (λ x. x), λ x. x)) in
    few-rows g.T.PhaseLane.numbers 0 laws.rows_none c.start_all.new.workers

pub returns-clause-each : goal.returns-clause-each
returns-clause-each g c = ready-left g.T.Worker.ready g.T.Starts.fresh _ c.run_phases.ensures.ready

pub returns-clause-same : goal.returns-clause-same
returns-clause-same g c =
    let laws = (g.met.T.PhaseLane g.world.𝓛 g.world.𝓜 g.world.𝓡 ((λ s x. x), (λ x. x), (λ x. x), λ x. x)) in
    same-then g.T.PhaseLane.same laws.same_still _ _ _ c.start_all.ensures.same c.run_phases.ensures.same

pub returns-clause-stopped : goal.returns-clause-stopped
returns-clause-stopped g c said =
    let laws = (g.met.T.PhaseLane g.world.𝓛 g.world.𝓜 g.world.𝓡 ((λ s x. x), (λ x. x), (λ x. x), λ x. x)) in
    inr (first-since g.T.PhaseLane.view g.T.PhaseLane.same laws.same_hears false _ _ _ c.start_all.ensures.same (c.run_phases.ensures.stopped said))

pub returns-clause-memory : goal.returns-clause-memory
returns-clause-memory g c said =
    let laws = (g.met.T.PhaseLane g.world.𝓛 g.world.𝓜 g.world.𝓡 ((λ s x. x), (λ x. x), (λ x. x), λ x. x)) in
    first-since g.T.PhaseLane.view g.T.PhaseLane.same laws.same_hears true _ _ _ c.start_all.ensures.same (c.run_phases.ensures.memory said)

pub returns-clause-first : goal.returns-clause-first
returns-clause-first g c =
    inr (record {
      between = c.start_all.new.workers;
      started = c.start_all.ensures.started c.if-not-start_all.false;
      before = c.start_all.ensures.same;
      behind = c.run_phases.ensures.same;
      floor = c.run_phases.ensures.floor;
    })

pub returns-then-not-start_all-clause-first : goal.returns-then-not-start_all-clause-first
returns-then-not-start_all-clause-first g c = inl c.start_all.ensures.alone
