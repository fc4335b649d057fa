use Rattle.std.proofs.Common.{true, false, ◌∙◌, ap}
use Rattle.qp_port_phases.specs.declared.phases.Next.TheVariants as next
use Rattle.qp_port_phases.proofs.Counting.{few-more, kept-few, went-few}
use Rattle.qp_port_phases.proofs.Floors.{floor-level, floor-then}
use Rattle.qp_port_phases.specs.Staying.{WorkerStays}
use Rattle.qp_port_phases.proofs.GoingOn.{stays-counts, stays-same}
use Rattle.qp_port_phases.proofs.Keeping.{first-since, keep-ready, keep-same, objects-each, one-table, same-then, table-still, went-ready, went-same}
use Rattle.qp_port_phases.proofs.phases.run_phases.Goals as goal

pub level-requires-clause-together : goal.level-requires-clause-together
level-requires-clause-together g c = one-table g.T.PhaseLane.view c.args.objects.now c.args.workers.now c.requires.table

pub loop-init : goal.loop-init
loop-init g c =
    let laws = (g.met.T.PhaseLane g.world.𝓛 g.world.𝓜 g.world.𝓡 ((λ s x. x), (λ x. x), (λ x. x), λ x. x)) in
    let kept = c.level.ensures.kept in
    let same = keep-same g.T.Worker.ready g.T.PhaseLane.same g.T.PhaseLane.waits g.T.PhaseLane.remains g.T.PhaseLane.numbers _ _ kept in (
      tt,
      tt,
      keep-ready g.T.Worker.ready g.T.PhaseLane.same g.T.PhaseLane.waits g.T.PhaseLane.remains g.T.PhaseLane.numbers _ _ kept,
      same,
      table-still g.T.PhaseLane.view g.T.PhaseLane.same laws.same_table c.args.objects.now _ _ same c.requires.table,
      kept-few g.T.PhaseLane.numbers g.T.Worker.ready g.T.PhaseLane.same g.T.PhaseLane.waits g.T.PhaseLane.remains 0 _ _ kept c.requires.begins,
      floor-level g.T.PhaseLane.view _ _ c.level.ensures.level,
    )

pub returns-in-Over-clause-same : goal.returns-in-Over-clause-same
returns-in-Over-clause-same g c =
    let laws = (g.met.T.PhaseLane g.world.𝓛 g.world.𝓜 g.world.𝓡 ((λ s x. x), (λ x. x), (λ x. x), λ x. x)) in
    same-then g.T.PhaseLane.same laws.same_still _ _ _ c.loop.invariant.3 c.between.ensures.same

pub returns-in-Over-clause-floor : goal.returns-in-Over-clause-floor
returns-in-Over-clause-floor g c =
    let laws = (g.met.T.PhaseLane g.world.𝓛 g.world.𝓜 g.world.𝓡 ((λ s x. x), (λ x. x), (λ x. x), λ x. x)) in
    floor-then g.T.PhaseLane.view g.T.PhaseLane.same laws.same_advances _ _ _ c.loop.invariant.6 c.between.ensures.same

pub returns-in-Over-clause-rows : goal.returns-in-Over-clause-rows
returns-in-Over-clause-rows g c = few-more g.T.PhaseLane.numbers c.loop.begun c.between.new.workers c.between.ensures.few

pub loop-preserved : goal.loop-preserved
loop-preserved g c =
    let laws = (g.met.T.PhaseLane g.world.𝓛 g.world.𝓜 g.world.𝓡 ((λ s x. x), (λ x. x), (λ x. x), λ x. x)) in
    let so_far = same-then g.T.PhaseLane.same laws.same_still _ _ _ c.loop.invariant.3 c.between.ensures.same in (
      tt,
      tt,
      c.between.ensures.ready,
      so_far,
      table-still g.T.PhaseLane.view g.T.PhaseLane.same laws.same_table c.args.objects.now _ _ c.between.ensures.same c.loop.invariant.4,
      c.between.ensures.few,
      floor-then g.T.PhaseLane.view g.T.PhaseLane.same laws.same_advances _ _ _ c.loop.invariant.6 c.between.ensures.same,
    )

pub run_lanes-requires-clause-ready : goal.run_lanes-requires-clause-ready
run_lanes-requires-clause-ready g c κs within =
    let laws = (g.met.T.PhaseLane g.world.𝓛 g.world.𝓜 g.world.𝓡 ((λ s x. x), (λ x. x), (λ x. x), λ x. x)) in
    let started = c.begin-manner.ensures in
    let kept = keep-same g.T.Worker.ready g.T.PhaseLane.same g.T.PhaseLane.waits g.T.PhaseLane.remains g.T.PhaseLane.numbers _ _ started.kept in
    let ready = keep-ready g.T.Worker.ready g.T.PhaseLane.same g.T.PhaseLane.waits g.T.PhaseLane.remains g.T.PhaseLane.numbers _ _ started.kept in
    let table = table-still g.T.PhaseLane.view g.T.PhaseLane.same laws.same_table c.args.objects.now _ _ c.between.ensures.same c.loop.invariant.4 in
    rw started.objects
    (objects-each g.T.Worker.ready g.T.PhaseLane.view c.args.objects.now _ ready (table-still g.T.PhaseLane.view g.T.PhaseLane.same laws.same_table c.args.objects.now _ _ kept table))

pub loop-preserved-in-Phase : goal.loop-preserved-in-Phase
loop-preserved-in-Phase g c =
    let laws = (g.met.T.PhaseLane g.world.𝓛 g.world.𝓜 g.world.𝓡 ((λ s x. x), (λ x. x), (λ x. x), λ x. x)) in
    let started = c.begin-manner.ensures in
    let kept = keep-same g.T.Worker.ready g.T.PhaseLane.same g.T.PhaseLane.waits g.T.PhaseLane.remains g.T.PhaseLane.numbers _ _ started.kept in
    let turned = c.run_lanes.ensures in
    let Turned = WorkerStays g.T.Worker.turned g.T.Worker.ready g.T.PhaseLane.same g.T.PhaseLane.numbers in
    let stays = stays-same g.T.Worker.ready g.T.PhaseLane.same g.T.PhaseLane.numbers g.T.Worker.turned laws.same_still laws.went in
    let counts = stays-counts g.T.Worker.ready g.T.PhaseLane.same g.T.PhaseLane.numbers g.T.Worker.turned g.T.PhaseLane.view laws.went_on in
    let went = went-same g.T.Worker.ready g.T.PhaseLane.same Turned stays _ _ turned in
    let so_far = same-then g.T.PhaseLane.same laws.same_still _ _ _ c.loop.invariant.3 (same-then g.T.PhaseLane.same laws.same_still _ _ _ c.between.ensures.same kept) in
    let now = same-then g.T.PhaseLane.same laws.same_still _ _ _ so_far went in
    let table = table-still g.T.PhaseLane.view g.T.PhaseLane.same laws.same_table c.args.objects.now _ _ c.between.ensures.same c.loop.invariant.4 in
    let behind = same-then g.T.PhaseLane.same laws.same_still _ _ _ kept went in (
      tt,
      tt,
      went-ready g.T.Worker.ready g.T.PhaseLane.same Turned stays _ _ turned,
      now,
      table-still g.T.PhaseLane.view g.T.PhaseLane.same laws.same_table c.args.objects.now _ _ behind table,
      went-few g.T.PhaseLane.numbers g.T.PhaseLane.view Turned counts c.args.objects.now _ _ turned (started.cause (c.between.ensures.cause c.in-Phase.is)),
      floor-then g.T.PhaseLane.view g.T.PhaseLane.same laws.same_advances _ _ _ (floor-then g.T.PhaseLane.view g.T.PhaseLane.same laws.same_advances _ _ _ c.loop.invariant.6 c.between.ensures.same) behind,
    )

pub returns-in-Over-clause-stopped : goal.returns-in-Over-clause-stopped
returns-in-Over-clause-stopped g c said =
    let laws = (g.met.T.PhaseLane g.world.𝓛 g.world.𝓜 g.world.𝓡 ((λ s x. x), (λ x. x), (λ x. x), λ x. x)) in
    first-since g.T.PhaseLane.view g.T.PhaseLane.same laws.same_hears false _ _ _ c.loop.invariant.3 (c.between.ensures.stopped (c.in-Over.is ∙ ap next.Over said))

pub returns-in-Over-clause-memory : goal.returns-in-Over-clause-memory
returns-in-Over-clause-memory g c said =
    let laws = (g.met.T.PhaseLane g.world.𝓛 g.world.𝓜 g.world.𝓡 ((λ s x. x), (λ x. x), (λ x. x), λ x. x)) in
    first-since g.T.PhaseLane.view g.T.PhaseLane.same laws.same_hears true _ _ _ c.loop.invariant.3 (c.between.ensures.memory (c.in-Over.is ∙ ap next.Over said))
