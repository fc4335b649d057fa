use Rattle.std.proofs.Common.{Ok, false, refl, subst, ◌∙◌}
use Rattle.std.proofs.lemmas.Result.{err_from_is_err_and}
use Rattle.qp_kernel_turns.proofs.Lanes.{goes-none, goes-then, halts-then}
use Rattle.qp_port_lanes.specs.Turning.{UnlessOver}
use Rattle.qp_port_lanes.proofs.Never.{never-same, never-then}
use Rattle.qp_told.proofs.ToldLemmas.{tells-kept, tells-none, tells-then}
use Rattle.qp_port_lanes.proofs.turning.rounds.Goals as goal

pub loop-init : goal.loop-init
loop-init g c = record { home = c.requires.knows; lane = goes-none false (g.O.Ops.lane c.args.ops.now); never = never-same _ _ refl; same = refl; tells = tells-none c.args.home.now.object.taken c.args.gate.now.steps.list }

pub loop-preserved : goal.loop-preserved
loop-preserved g c =
    let lane = g.O.Ops.lane in
    record {
      home = c.in_ok-finish_step.ensures.goes;
      lane = goes-then false (lane c.args.ops.now) (lane c.begin_step.new.ops) (lane c.finish_step.new.ops) (goes-then false (lane c.args.ops.now) (lane c.loop.ops) (lane c.begin_step.new.ops) c.loop.invariant.lane c.in_ok-begin_step.ensures.lane)
          c.in_ok-finish_step.ensures.lane;
      never = never-then (lane c.args.ops.now) (lane c.begin_step.new.ops) (lane c.finish_step.new.ops) (never-then (lane c.args.ops.now) (lane c.loop.ops) (lane c.begin_step.new.ops) c.loop.invariant.never
          (subst (λ b. UnlessOver (lane c.loop.ops) (lane c.begin_step.new.ops) (Ok b)) c.if-not-branch.false c.in_ok-begin_step.ensures.never))
          c.in_ok-finish_step.ensures.never;
      same = c.in_ok-finish_step.ensures.same ∙ c.in_ok-begin_step.ensures.same ∙ c.loop.invariant.same;
      tells = tells-kept c.args.home.now.object.taken c.begin_step.new.home.object.taken c.finish_step.new.home.object.taken c.args.gate.now.steps.list c.begin_step.new.gate.steps.list (tells-then c.args.home.now.object.taken c.loop.home.object.taken c.begin_step.new.home.object.taken c.args.gate.now.steps.list c.loop.gate.steps.list c.begin_step.new.gate.steps.list c.loop.invariant.tells c.in_ok-begin_step.ensures.tells) c.in_ok-finish_step.ensures.kept;
    }

pub returns-then-not-branch-clause-lane : goal.returns-then-not-branch-clause-lane
returns-then-not-branch-clause-lane g c =
    let lane = g.O.Ops.lane in
    goes-then false (lane c.args.ops.now) (lane c.loop.ops) (lane c.begin_step.new.ops) c.loop.invariant.lane c.in_ok-begin_step.ensures.lane

pub returns-in_err-begin_step-clause-lane : goal.returns-in_err-begin_step-clause-lane
returns-in_err-begin_step-clause-lane g c =
    let lane = g.O.Ops.lane in
    let p = err_from_is_err_and c.from_residual.result c.from_residual.ensures.1 in
    rw (p.1, p.2) (halts-then false (lane c.args.ops.now) (lane c.loop.ops) (lane c.begin_step.new.ops) c.in_err-begin_step.field-0.0 c.loop.invariant.lane c.in_err-begin_step.ensures.lane)

pub returns-in_err-finish_step-clause-lane : goal.returns-in_err-finish_step-clause-lane
returns-in_err-finish_step-clause-lane g c =
    let lane = g.O.Ops.lane in
    let p = err_from_is_err_and c.from_residual-in_err-finish_step.result c.from_residual-in_err-finish_step.ensures.1 in
    rw (p.1, p.2)
    (halts-then false (lane c.args.ops.now) (lane c.begin_step.new.ops) (lane c.finish_step.new.ops) c.in_err-finish_step.field-0.0
    (goes-then false (lane c.args.ops.now) (lane c.loop.ops) (lane c.begin_step.new.ops) c.loop.invariant.lane c.in_ok-begin_step.ensures.lane) c.in_err-finish_step.ensures.lane)

pub returns-in_err-begin_step-clause-never : goal.returns-in_err-begin_step-clause-never
returns-in_err-begin_step-clause-never g c =
    let lane = g.O.Ops.lane in
    let p = err_from_is_err_and c.from_residual.result c.from_residual.ensures.1 in
    rw p.1 (never-then (lane c.args.ops.now) (lane c.loop.ops) (lane c.begin_step.new.ops) c.loop.invariant.never c.in_err-begin_step.ensures.never)

pub returns-in_err-finish_step-clause-never : goal.returns-in_err-finish_step-clause-never
returns-in_err-finish_step-clause-never g c =
    let lane = g.O.Ops.lane in
    let p = err_from_is_err_and c.from_residual-in_err-finish_step.result c.from_residual-in_err-finish_step.ensures.1 in
    rw p.1
    (never-then (lane c.args.ops.now) (lane c.begin_step.new.ops) (lane c.finish_step.new.ops)
    (never-then (lane c.args.ops.now) (lane c.loop.ops) (lane c.begin_step.new.ops) c.loop.invariant.never
    (subst (λ b. UnlessOver (lane c.loop.ops) (lane c.begin_step.new.ops) (Ok b)) c.if-not-branch.false c.in_ok-begin_step.ensures.never)) c.in_err-finish_step.ensures.never)

pub returns-then-not-branch-clause-tells : goal.returns-then-not-branch-clause-tells
returns-then-not-branch-clause-tells g c = tells-then c.args.home.now.object.taken c.loop.home.object.taken c.begin_step.new.home.object.taken c.args.gate.now.steps.list c.loop.gate.steps.list c.begin_step.new.gate.steps.list c.loop.invariant.tells c.in_ok-begin_step.ensures.tells

pub returns-in_err-begin_step-clause-tells : goal.returns-in_err-begin_step-clause-tells
returns-in_err-begin_step-clause-tells g c = tells-then c.args.home.now.object.taken c.loop.home.object.taken c.begin_step.new.home.object.taken c.args.gate.now.steps.list c.loop.gate.steps.list c.begin_step.new.gate.steps.list c.loop.invariant.tells c.in_err-begin_step.ensures.tells

pub returns-in_err-finish_step-clause-tells : goal.returns-in_err-finish_step-clause-tells
returns-in_err-finish_step-clause-tells g c = tells-kept c.args.home.now.object.taken c.begin_step.new.home.object.taken c.finish_step.new.home.object.taken c.args.gate.now.steps.list c.begin_step.new.gate.steps.list (tells-then c.args.home.now.object.taken c.loop.home.object.taken c.begin_step.new.home.object.taken c.args.gate.now.steps.list c.loop.gate.steps.list c.begin_step.new.gate.steps.list c.loop.invariant.tells c.in_ok-begin_step.ensures.tells) c.in_err-finish_step.ensures.kept
