use Rattle.std.proofs.Common.{inl, inr, refl, true, false}
use Rattle.qp_model.proofs.AbleLemmas.{some-same}
use Rattle.qp_port_phases.proofs.Keeping.{first-since, same-then, table-still}
use Rattle.qp_port_qk.proofs.Rows.{ready-map}
use Rattle.qp_port_qk.proofs.starting.start_and_run.Goals as goal

pub run_phases-requires-clause-table : goal.run_phases-requires-clause-table
run_phases-requires-clause-table g c κs within =
    let laws = (g.met.T.PhaseLane g.world.𝓛 g.world.𝓜 g.world.𝓡 ((λ s x. x), (λ x. x), (λ x. x), λ x. x)) in
    table-still g.T.PhaseLane.view g.T.PhaseLane.same laws.same_table c.args.objects.now c.args.workers.now c.start_first.new.workers c.if-start_first.ensures.same c.requires.table

pub returns-then-start_first-clause-each : goal.returns-then-start_first-clause-each
returns-then-start_first-clause-each g c = ready-map g.T.Worker.ready _ (λ w h. inl h) c.run_phases.new.workers c.run_phases.ensures.ready

pub returns-then-start_first-clause-same : goal.returns-then-start_first-clause-same
returns-then-start_first-clause-same g c =
    let laws = (g.met.T.PhaseLane g.world.𝓛 g.world.𝓜 g.world.𝓡 ((λ s x. x), (λ x. x), (λ x. x), λ x. x)) in
    same-then g.T.PhaseLane.same laws.same_still c.args.workers.now c.start_first.new.workers c.run_phases.new.workers c.if-start_first.ensures.same c.run_phases.ensures.same

pub run_phases-requires-clause-begins : goal.run_phases-requires-clause-begins
run_phases-requires-clause-begins g c κs within = c.start_first.ensures.rows 0

pub returns-else-start_first-clause-rows : goal.returns-else-start_first-clause-rows
returns-else-start_first-clause-rows g c = c.start_first.ensures.rows 1

pub returns-then-start_first-clause-stopped : goal.returns-then-start_first-clause-stopped
returns-then-start_first-clause-stopped g c said =
    let laws = (g.met.T.PhaseLane g.world.𝓛 g.world.𝓜 g.world.𝓡 ((λ s x. x), (λ x. x), (λ x. x), λ x. x)) in
    first-since g.T.PhaseLane.view g.T.PhaseLane.same laws.same_hears false c.args.workers.now c.start_first.new.workers c.run_phases.new.workers c.if-start_first.ensures.same (c.run_phases.ensures.stopped (some-same said))

pub returns-then-start_first-clause-memory : goal.returns-then-start_first-clause-memory
returns-then-start_first-clause-memory g c said =
    let laws = (g.met.T.PhaseLane g.world.𝓛 g.world.𝓜 g.world.𝓡 ((λ s x. x), (λ x. x), (λ x. x), λ x. x)) in
    first-since g.T.PhaseLane.view g.T.PhaseLane.same laws.same_hears true c.args.workers.now c.start_first.new.workers c.run_phases.new.workers c.if-start_first.ensures.same (c.run_phases.ensures.memory (some-same said))

pub returns-then-start_first-clause-first : goal.returns-then-start_first-clause-first
returns-then-start_first-clause-first g c = inr (record {
  between = c.start_first.new.workers;
  started = c.if-start_first.ensures.started refl;
  before = c.if-start_first.ensures.same;
  behind = c.run_phases.ensures.same;
  floor = c.run_phases.ensures.floor;
})

pub returns-else-start_first-clause-first : goal.returns-else-start_first-clause-first
returns-else-start_first-clause-first g c = inl c.start_first.ensures.alone
