use Rattle.std.proofs.Common.{[], Ok, arith, subst}
use Rattle.qp_kernel_turns.specs.Counting.{BeginsFound}
use Rattle.std.proofs.lemmas.Result.{err_from_is_err_and}
use Rattle.qp_kernel_turns.specs.Ordering.{VisitsInOrder}
use Rattle.qp_kernel_turns.specs.Turning.{VisitsTo, stand_of, terms_of}
use Rattle.qp_kernel_turns.proofs.Counting.{counted-none, counted-on, counted-then, less-looks}
use Rattle.qp_kernel_turns.proofs.Lanes.{goes-any, goes-none, goes-then, halts-any, halts-then, looked-scanned}
use Rattle.qp_kernel_turns.proofs.Ordered.{halts-from}
use Rattle.qp_kernel_turns.proofs.Rounds.{entered-all, held-of, onward-all, onward-none, onward-then, round-found}
use Rattle.qp_told.proofs.ToldLemmas.{tells-kept, tells-none, tells-step, tells-then}
use Rattle.qp_vanilla.proofs.Turns.{all-empty, at-base, goes-within, onward-look, rests-again, rests-idle, rests-over}
use Rattle.qp_vanilla.proofs.turning.rounds.Goals as goal

pub floor-low-requires-clause-held : goal.floor-low-requires-clause-held
floor-low-requires-clause-held g c =
    held-of c.args.at.now.sys.now (terms_of c.args.at.now) c.loop.kernel.looks c.loop.kernel.stack.items c.loop.objects (g.W.Ops.lane c.loop.world) c.loop.invariant.knows

pub step-requires-clause-knows : goal.step-requires-clause-knows
step-requires-clause-knows g c =
    let sys = c.args.at.now.sys.now in
    let terms = terms_of c.args.at.now in
    let lane = g.W.Ops.lane in
    let a = stand_of c.loop.kernel c.loop.objects (lane c.loop.world) in
    let b = stand_of c.look.new.kernel c.loop.objects (lane c.look.new.world) in
    let look = c.in_ok-happened.ensures.goes in
    let came = c.in_ok-happened.happened in
    goes-within sys c.requires.sound terms c.requires.single c.requires.cooperative a b came look c.in-Some-top.field-0 c.in-Some-top.ensures

pub loop-preserved-in-Continue-branch-2 : goal.loop-preserved-in-Continue-branch-2
loop-preserved-in-Continue-branch-2 g c =
    let sys = c.args.at.now.sys.now in
    let terms = terms_of c.args.at.now in
    let lane = g.W.Ops.lane in
    let a = stand_of c.loop.kernel c.loop.objects (lane c.loop.world) in
    let b = stand_of c.look.new.kernel c.loop.objects (lane c.look.new.world) in
    let look = c.in_ok-happened.ensures.goes in
    let came = c.in_ok-happened.happened in
    let z = stand_of c.step.new.kernel c.step.new.objects (lane c.step.new.world) in
    let stepped = c.in_ok-step-in-Some-top.ensures.goes in
    record {
      knows = stepped.knows;
      onward = onward-then c.args.objects.now (lane c.args.world.now) b.objects b.lane z.objects z.lane (onward-look sys terms c.args.objects.now (lane c.args.world.now) a b c.loop.invariant.onward came look) stepped.onward;
      order = c.in_ok-step-in-Some-top.ensures.order g.W.World.acts c.in_ok-happened.ensures.order.order;
      lane = goes-then g.W.World.acts (lane c.args.world.now) (lane c.look.new.world) (lane c.step.new.world) (goes-then g.W.World.acts (lane c.args.world.now) (lane c.loop.world) (lane c.look.new.world) c.loop.invariant.lane c.in_ok-happened.ensures.lane) (goes-any g.W.World.acts (lane c.look.new.world) (lane c.step.new.world) c.in_ok-step-in-Some-top.ensures.lane);
      counted = counted-then 0 (omega arith) c.args.kernel.now c.loop.kernel c.look.new.kernel c.step.new.kernel c.args.objects.now c.loop.objects c.step.new.objects c.loop.invariant.counted c.in_ok-happened.ensures.steps c.in_ok-happened.ensures.goes.counted c.in_ok-step-in-Some-top.ensures.begun stepped.looks;
      tells = tells-step c.args.kernel.now.steps c.look.new.kernel.steps c.step.new.kernel.steps c.args.gate.now.steps.list c.loop.gate.steps.list (tells-kept c.args.kernel.now.steps c.loop.kernel.steps c.look.new.kernel.steps c.args.gate.now.steps.list c.loop.gate.steps.list c.loop.invariant.tells c.in_ok-happened.ensures.steps) c.in_ok-step-in-Some-top.ensures.begun.steps;
    }

pub returns-in_err-step-in-Some-top-clause-order : goal.returns-in_err-step-in-Some-top-clause-order
returns-in_err-step-in-Some-top-clause-order g c =
    let sys = c.args.at.now.sys.now in
    let terms = terms_of c.args.at.now in
    let lane = g.W.Ops.lane in
    let a = stand_of c.loop.kernel c.loop.objects (lane c.loop.world) in
    let b = stand_of c.look.new.kernel c.loop.objects (lane c.look.new.world) in
    let look = c.in_ok-happened.ensures.goes in
    let came = c.in_ok-happened.happened in
    let p = err_from_is_err_and c.from_residual-in_err-step-in-Some-top.result c.from_residual-in_err-step-in-Some-top.ensures.1 in
    let on = onward-look sys terms c.args.objects.now (lane c.args.world.now) a b c.loop.invariant.onward came look in
    rw (p.1, p.2)
    (halts-from g.W.World.acts sys c.args.objects.now (lane c.args.world.now) c.loop.objects (lane c.look.new.world) (lane c.step.new.world) c.in_err-step-in-Some-top.field-0.0 c.requires.knows.knows.lane.of look.knows.knows.lane.of on
    (c.in_err-step-in-Some-top.ensures.order g.W.World.acts c.in_ok-happened.ensures.order.order))

pub loop-preserved-in-Continue-branch-4 : goal.loop-preserved-in-Continue-branch-4
loop-preserved-in-Continue-branch-4 g c =
    let sys = c.args.at.now.sys.now in
    let terms = terms_of c.args.at.now in
    let lane = g.W.Ops.lane in
    let a = stand_of c.loop.kernel c.loop.objects (lane c.loop.world) in
    let b = stand_of c.look.new.kernel c.loop.objects (lane c.look.new.world) in
    let look = c.in_ok-happened.ensures.goes in
    let came = c.in_ok-happened.happened in
    let d = stand_of c.scan.new.kernel c.scan.new.objects (lane c.scan.new.world) in
    let enter = subst (λ x. VisitsTo [] sys terms b d (Ok x)) c.if-branch.true c.in_ok-scan-in-None-top.ensures.goes in
    let seen = subst (λ x. VisitsInOrder g.W.World.acts sys c.floor-low.result 0 b d (Ok x)) c.if-branch.true c.in_ok-scan-in-None-top.ensures.order in
    let z = stand_of c.step-then-branch.new.kernel c.step-then-branch.new.objects (lane c.step-then-branch.new.world) in
    let on = round-found sys terms c.args.objects.now (lane c.args.world.now) a b d c.loop.invariant.onward came z look enter c.in_ok-step-in-None-top.ensures.goes in
    record {
      knows = on.0;
      onward = on.1;
      order = c.in_ok-step-in-None-top.ensures.order g.W.World.acts seen;
      lane = goes-then g.W.World.acts (lane c.args.world.now) (lane c.scan.new.world) (lane c.step-then-branch.new.world) (looked-scanned g.W.World.acts (lane c.args.world.now) (lane c.loop.world) (lane c.look.new.world) (lane c.scan.new.world) c.loop.invariant.lane c.in_ok-happened.ensures.lane c.in_ok-scan-in-None-top.ensures.lane) (goes-any g.W.World.acts (lane c.scan.new.world) (lane c.step-then-branch.new.world) c.in_ok-step-in-None-top.ensures.lane);
      counted = counted-on c.args.kernel.now c.scan.new.kernel c.step-then-branch.new.kernel c.args.objects.now c.scan.new.objects c.step-then-branch.new.objects (counted-then 1 (omega arith) c.args.kernel.now c.loop.kernel c.look.new.kernel c.scan.new.kernel c.args.objects.now c.loop.objects c.scan.new.objects c.loop.invariant.counted c.in_ok-happened.ensures.steps c.in_ok-happened.ensures.goes.counted (subst (λ x. BeginsFound c.look.new.kernel c.scan.new.kernel c.loop.objects c.scan.new.objects (Ok x)) c.if-branch.true c.in_ok-scan-in-None-top.ensures.begun) enter.looks) c.in_ok-step-in-None-top.ensures.begun c.in_ok-step-in-None-top.ensures.goes.looks;
      tells = tells-step c.args.kernel.now.steps c.scan.new.kernel.steps c.step-then-branch.new.kernel.steps c.args.gate.now.steps.list c.scan.new.gate.steps.list (tells-then c.args.kernel.now.steps c.look.new.kernel.steps c.scan.new.kernel.steps c.args.gate.now.steps.list c.loop.gate.steps.list c.scan.new.gate.steps.list (tells-kept c.args.kernel.now.steps c.loop.kernel.steps c.look.new.kernel.steps c.args.gate.now.steps.list c.loop.gate.steps.list c.loop.invariant.tells c.in_ok-happened.ensures.steps) c.in_ok-scan-in-None-top.ensures.tells) c.in_ok-step-in-None-top.ensures.begun.steps;
    }

pub returns-in_err-step-in-None-top-clause-order : goal.returns-in_err-step-in-None-top-clause-order
returns-in_err-step-in-None-top-clause-order g c =
    let sys = c.args.at.now.sys.now in
    let terms = terms_of c.args.at.now in
    let lane = g.W.Ops.lane in
    let a = stand_of c.loop.kernel c.loop.objects (lane c.loop.world) in
    let b = stand_of c.look.new.kernel c.loop.objects (lane c.look.new.world) in
    let look = c.in_ok-happened.ensures.goes in
    let came = c.in_ok-happened.happened in
    let d = stand_of c.scan.new.kernel c.scan.new.objects (lane c.scan.new.world) in
    let enter = subst (λ x. VisitsTo [] sys terms b d (Ok x)) c.if-branch.true c.in_ok-scan-in-None-top.ensures.goes in
    let seen = subst (λ x. VisitsInOrder g.W.World.acts sys c.floor-low.result 0 b d (Ok x)) c.if-branch.true c.in_ok-scan-in-None-top.ensures.order in
    let p = err_from_is_err_and c.from_residual-in_err-step-in-None-top.result c.from_residual-in_err-step-in-None-top.ensures.1 in
    let on = entered-all sys terms c.args.objects.now (lane c.args.world.now) a b d c.loop.invariant.onward came look enter in
    rw (p.1, p.2)
    (halts-from g.W.World.acts sys c.args.objects.now (lane c.args.world.now) c.scan.new.objects (lane c.scan.new.world) (lane c.step-then-branch.new.world) c.in_err-step-in-None-top.field-0.0 c.requires.knows.knows.lane.of enter.runs.knows.knows.lane.of on
    (c.in_err-step-in-None-top.ensures.order g.W.World.acts seen))

pub rest-requires-clause-base : goal.rest-requires-clause-base
rest-requires-clause-base g c =
    let sys = c.args.at.now.sys.now in
    let terms = terms_of c.args.at.now in
    let lane = g.W.Ops.lane in
    let a = stand_of c.loop.kernel c.loop.objects (lane c.loop.world) in
    let b = stand_of c.look.new.kernel c.loop.objects (lane c.look.new.world) in
    let look = c.in_ok-happened.ensures.goes in
    let came = c.in_ok-happened.happened in
    let d = stand_of c.scan.new.kernel c.scan.new.objects (lane c.scan.new.world) in
    let pass = subst (λ x. VisitsTo [] sys terms b d (Ok x)) c.if-branch.false c.in_ok-scan-in-None-top.ensures.goes in
    at-base sys terms a b d came look pass c.in-None-top.ensures

pub rest-requires-clause-empty : goal.rest-requires-clause-empty
rest-requires-clause-empty g c =
    let sys = c.args.at.now.sys.now in
    let terms = terms_of c.args.at.now in
    let lane = g.W.Ops.lane in
    let a = stand_of c.loop.kernel c.loop.objects (lane c.loop.world) in
    let b = stand_of c.look.new.kernel c.loop.objects (lane c.look.new.world) in
    let look = c.in_ok-happened.ensures.goes in
    let came = c.in_ok-happened.happened in
    let d = stand_of c.scan.new.kernel c.scan.new.objects (lane c.scan.new.world) in
    let pass = subst (λ x. VisitsTo [] sys terms b d (Ok x)) c.if-branch.false c.in_ok-scan-in-None-top.ensures.goes in
    let seen = subst (λ x. VisitsInOrder g.W.World.acts sys c.floor-low.result 0 b d (Ok x)) c.if-branch.false c.in_ok-scan-in-None-top.ensures.order in
    all-empty sys terms a b d came look pass c.in-None-top.ensures g.W.World.acts c.floor-low.result c.floor-low.ensures seen

pub returns-in_err-rest-in-None-top-clause-order : goal.returns-in_err-rest-in-None-top-clause-order
returns-in_err-rest-in-None-top-clause-order g c =
    let sys = c.args.at.now.sys.now in
    let terms = terms_of c.args.at.now in
    let lane = g.W.Ops.lane in
    let a = stand_of c.loop.kernel c.loop.objects (lane c.loop.world) in
    let b = stand_of c.look.new.kernel c.loop.objects (lane c.look.new.world) in
    let look = c.in_ok-happened.ensures.goes in
    let came = c.in_ok-happened.happened in
    let d = stand_of c.scan.new.kernel c.scan.new.objects (lane c.scan.new.world) in
    let pass = subst (λ x. VisitsTo [] sys terms b d (Ok x)) c.if-branch.false c.in_ok-scan-in-None-top.ensures.goes in
    let p = err_from_is_err_and c.from_residual-in_err-rest-in-None-top.result c.from_residual-in_err-rest-in-None-top.ensures.1 in
    let on = onward-all sys terms c.args.objects.now (lane c.args.world.now) a b d c.loop.invariant.onward came look pass in
    rw (p.1, p.2)
    (halts-from g.W.World.acts sys c.args.objects.now (lane c.args.world.now) c.scan.new.objects (lane c.scan.new.world) (lane c.rest.new.world) c.in_err-rest-in-None-top.field-0.0 c.requires.knows.knows.lane.of pass.knows.knows.lane.of on
    c.in_err-rest-in-None-top.ensures.order)

pub returns-then-not-happened-clause-goes : goal.returns-then-not-happened-clause-goes
returns-then-not-happened-clause-goes g c =
    let sys = c.args.at.now.sys.now in
    let terms = terms_of c.args.at.now in
    let lane = g.W.Ops.lane in
    let a = stand_of c.loop.kernel c.loop.objects (lane c.loop.world) in
    let b = stand_of c.look.new.kernel c.loop.objects (lane c.look.new.world) in
    let look = c.in_ok-happened.ensures.goes in
    let came = c.in_ok-happened.happened in
    let d = stand_of c.scan.new.kernel c.scan.new.objects (lane c.scan.new.world) in
    let pass = subst (λ x. VisitsTo [] sys terms b d (Ok x)) c.if-branch.false c.in_ok-scan-in-None-top.ensures.goes in
    let z = stand_of c.scan.new.kernel c.scan.new.objects (lane c.rest.new.world) in
    let rest = c.in_ok-rest-in-None-top.ensures.goes in
    let over = rests-over sys terms a b d came look pass c.in-None-top.ensures c.args.objects.now (lane c.args.world.now) c.loop.invariant.onward z rest c.if-not-happened.true in
    record { knows = over.knows; onward = over.onward; again = over.again }

pub returns-then-not-happened-clause-order : goal.returns-then-not-happened-clause-order
returns-then-not-happened-clause-order g c =
    let sys = c.args.at.now.sys.now in
    let terms = terms_of c.args.at.now in
    let lane = g.W.Ops.lane in
    let a = stand_of c.loop.kernel c.loop.objects (lane c.loop.world) in
    let b = stand_of c.look.new.kernel c.loop.objects (lane c.look.new.world) in
    let look = c.in_ok-happened.ensures.goes in
    let came = c.in_ok-happened.happened in
    let d = stand_of c.scan.new.kernel c.scan.new.objects (lane c.scan.new.world) in
    let pass = subst (λ x. VisitsTo [] sys terms b d (Ok x)) c.if-branch.false c.in_ok-scan-in-None-top.ensures.goes in
    let seen = subst (λ x. VisitsInOrder g.W.World.acts sys c.floor-low.result 0 b d (Ok x)) c.if-branch.false c.in_ok-scan-in-None-top.ensures.order in
    let z = stand_of c.scan.new.kernel c.scan.new.objects (lane c.rest.new.world) in
    let rest = c.in_ok-rest-in-None-top.ensures.order in
    rests-idle g.W.World.acts sys c.requires.sound terms a b d z came c.floor-low.result c.floor-low.ensures look c.in_ok-happened.ensures.order c.if-not-happened.true pass seen rest c.in-None-top.ensures

pub loop-preserved : goal.loop-preserved
loop-preserved g c =
    let sys = c.args.at.now.sys.now in
    let terms = terms_of c.args.at.now in
    let lane = g.W.Ops.lane in
    let a = stand_of c.loop.kernel c.loop.objects (lane c.loop.world) in
    let b = stand_of c.look.new.kernel c.loop.objects (lane c.look.new.world) in
    let look = c.in_ok-happened.ensures.goes in
    let came = c.in_ok-happened.happened in
    let d = stand_of c.scan.new.kernel c.scan.new.objects (lane c.scan.new.world) in
    let pass = subst (λ x. VisitsTo [] sys terms b d (Ok x)) c.if-branch.false c.in_ok-scan-in-None-top.ensures.goes in
    let z = stand_of c.scan.new.kernel c.scan.new.objects (lane c.rest.new.world) in
    let rest = c.in_ok-rest-in-None-top.ensures.goes in
    let again = rests-again sys terms a b d came look pass c.in-None-top.ensures c.args.objects.now (lane c.args.world.now) c.loop.invariant.onward z rest c.if-not-happened.false in
    record {
      knows = again.0;
      onward = again.1;
      order = c.in_ok-rest-in-None-top.ensures.order.order;
      lane = goes-then g.W.World.acts (lane c.args.world.now) (lane c.scan.new.world) (lane c.rest.new.world) (looked-scanned g.W.World.acts (lane c.args.world.now) (lane c.loop.world) (lane c.look.new.world) (lane c.scan.new.world) c.loop.invariant.lane c.in_ok-happened.ensures.lane c.in_ok-scan-in-None-top.ensures.lane) (c.in_ok-rest-in-None-top.ensures.lane);
      counted = counted-then 0 (omega arith) c.args.kernel.now c.loop.kernel c.look.new.kernel c.scan.new.kernel c.args.objects.now c.loop.objects c.scan.new.objects c.loop.invariant.counted c.in_ok-happened.ensures.steps c.in_ok-happened.ensures.goes.counted (subst (λ x. BeginsFound c.look.new.kernel c.scan.new.kernel c.loop.objects c.scan.new.objects (Ok x)) c.if-branch.false c.in_ok-scan-in-None-top.ensures.begun) pass.looks;
      tells = tells-then c.args.kernel.now.steps c.look.new.kernel.steps c.scan.new.kernel.steps c.args.gate.now.steps.list c.loop.gate.steps.list c.scan.new.gate.steps.list (tells-kept c.args.kernel.now.steps c.loop.kernel.steps c.look.new.kernel.steps c.args.gate.now.steps.list c.loop.gate.steps.list c.loop.invariant.tells c.in_ok-happened.ensures.steps) c.in_ok-scan-in-None-top.ensures.tells;
    }

pub returns-then-not-happened-clause-lane : goal.returns-then-not-happened-clause-lane
returns-then-not-happened-clause-lane g c =
    let lane = g.W.Ops.lane in
    goes-then g.W.World.acts (lane c.args.world.now) (lane c.scan.new.world) (lane c.rest.new.world) (looked-scanned g.W.World.acts (lane c.args.world.now) (lane c.loop.world) (lane c.look.new.world) (lane c.scan.new.world) c.loop.invariant.lane c.in_ok-happened.ensures.lane c.in_ok-scan-in-None-top.ensures.lane) (c.in_ok-rest-in-None-top.ensures.lane)

pub returns-then-not-happened-clause-counted : goal.returns-then-not-happened-clause-counted
returns-then-not-happened-clause-counted g c =
    let sys = c.args.at.now.sys.now in
    let terms = terms_of c.args.at.now in
    let lane = g.W.Ops.lane in
    let b = stand_of c.look.new.kernel c.loop.objects (lane c.look.new.world) in
    let d = stand_of c.scan.new.kernel c.scan.new.objects (lane c.scan.new.world) in
    let pass = subst (λ x. VisitsTo [] sys terms b d (Ok x)) c.if-branch.false c.in_ok-scan-in-None-top.ensures.goes in
    counted-then 0 (omega arith) c.args.kernel.now c.loop.kernel c.look.new.kernel c.scan.new.kernel c.args.objects.now c.loop.objects c.scan.new.objects c.loop.invariant.counted c.in_ok-happened.ensures.steps c.in_ok-happened.ensures.goes.counted (subst (λ x. BeginsFound c.look.new.kernel c.scan.new.kernel c.loop.objects c.scan.new.objects (Ok x)) c.if-branch.false c.in_ok-scan-in-None-top.ensures.begun) pass.looks

pub returns-in_err-happened-clause-lane : goal.returns-in_err-happened-clause-lane
returns-in_err-happened-clause-lane g c =
    let lane = g.W.Ops.lane in
    let p = err_from_is_err_and c.from_residual.result c.from_residual.ensures.1 in
    rw (p.1, p.2)
    (halts-then g.W.World.acts (lane c.args.world.now) (lane c.loop.world) (lane c.look.new.world) c.in_err-happened.field-0.0 c.loop.invariant.lane c.in_err-happened.ensures.lane)

pub returns-in_err-step-in-Some-top-clause-lane : goal.returns-in_err-step-in-Some-top-clause-lane
returns-in_err-step-in-Some-top-clause-lane g c =
    let lane = g.W.Ops.lane in
    let p = err_from_is_err_and c.from_residual-in_err-step-in-Some-top.result c.from_residual-in_err-step-in-Some-top.ensures.1 in
    rw (p.1, p.2)
    (halts-then g.W.World.acts (lane c.args.world.now) (lane c.look.new.world) (lane c.step.new.world) c.in_err-step-in-Some-top.field-0.0 (goes-then g.W.World.acts (lane c.args.world.now) (lane c.loop.world) (lane c.look.new.world) c.loop.invariant.lane c.in_ok-happened.ensures.lane) (halts-any g.W.World.acts (lane c.look.new.world) (lane c.step.new.world) c.in_err-step-in-Some-top.field-0.0 c.in_err-step-in-Some-top.ensures.lane))

pub returns-in_err-scan-in-None-top-clause-lane : goal.returns-in_err-scan-in-None-top-clause-lane
returns-in_err-scan-in-None-top-clause-lane g c =
    let lane = g.W.Ops.lane in
    let p = err_from_is_err_and c.from_residual-in_err-scan-in-None-top.result c.from_residual-in_err-scan-in-None-top.ensures.1 in
    rw (p.1, p.2)
    (halts-then g.W.World.acts (lane c.args.world.now) (lane c.look.new.world) (lane c.scan.new.world) c.in_err-scan-in-None-top.field-0.0 (goes-then g.W.World.acts (lane c.args.world.now) (lane c.loop.world) (lane c.look.new.world) c.loop.invariant.lane c.in_ok-happened.ensures.lane) c.in_err-scan-in-None-top.ensures.lane)

pub returns-in_err-step-in-None-top-clause-lane : goal.returns-in_err-step-in-None-top-clause-lane
returns-in_err-step-in-None-top-clause-lane g c =
    let lane = g.W.Ops.lane in
    let p = err_from_is_err_and c.from_residual-in_err-step-in-None-top.result c.from_residual-in_err-step-in-None-top.ensures.1 in
    rw (p.1, p.2)
    (halts-then g.W.World.acts (lane c.args.world.now) (lane c.scan.new.world) (lane c.step-then-branch.new.world) c.in_err-step-in-None-top.field-0.0 (looked-scanned g.W.World.acts (lane c.args.world.now) (lane c.loop.world) (lane c.look.new.world) (lane c.scan.new.world) c.loop.invariant.lane c.in_ok-happened.ensures.lane c.in_ok-scan-in-None-top.ensures.lane) (halts-any g.W.World.acts (lane c.scan.new.world) (lane c.step-then-branch.new.world) c.in_err-step-in-None-top.field-0.0 c.in_err-step-in-None-top.ensures.lane))

pub returns-in_err-rest-in-None-top-clause-lane : goal.returns-in_err-rest-in-None-top-clause-lane
returns-in_err-rest-in-None-top-clause-lane g c =
    let lane = g.W.Ops.lane in
    let p = err_from_is_err_and c.from_residual-in_err-rest-in-None-top.result c.from_residual-in_err-rest-in-None-top.ensures.1 in
    rw (p.1, p.2)
    (halts-then g.W.World.acts (lane c.args.world.now) (lane c.scan.new.world) (lane c.rest.new.world) c.in_err-rest-in-None-top.field-0.0 (looked-scanned g.W.World.acts (lane c.args.world.now) (lane c.loop.world) (lane c.look.new.world) (lane c.scan.new.world) c.loop.invariant.lane c.in_ok-happened.ensures.lane c.in_ok-scan-in-None-top.ensures.lane) c.in_err-rest-in-None-top.ensures.lane)

pub loop-init : goal.loop-init
loop-init g c = record {
  knows = c.requires.knows;
  onward = onward-none c.args.objects.now (g.W.Ops.lane c.args.world.now);
  order = c.requires.order;
  lane = goes-none g.W.World.acts (g.W.Ops.lane c.args.world.now);
  counted = counted-none c.args.kernel.now c.args.objects.now c.requires.counted;
  tells = tells-none c.args.kernel.now.steps c.args.gate.now.steps.list;
}

pub scan-requires-clause-turn : goal.scan-requires-clause-turn
scan-requires-clause-turn g c =
    less-looks c.args.kernel.now c.loop.kernel c.look.new.kernel c.args.objects.now c.loop.objects c.loop.invariant.counted c.in_ok-happened.ensures.steps c.in_ok-happened.ensures.goes.counted

pub floor-low-requires-clause-single : goal.floor-low-requires-clause-single
floor-low-requires-clause-single g c = λ alone. c.requires.single

pub returns-in_err-happened-clause-order : goal.returns-in_err-happened-clause-order
returns-in_err-happened-clause-order g c =
    let lane = g.W.Ops.lane in
    let p = err_from_is_err_and c.from_residual.result c.from_residual.ensures.1 in
    rw (p.1, p.2)
    (halts-from g.W.World.acts c.args.at.now.sys.now c.args.objects.now (lane c.args.world.now) c.loop.objects (lane c.loop.world) (lane c.look.new.world) c.in_err-happened.field-0.0 c.requires.knows.knows.lane.of c.loop.invariant.knows.knows.lane.of c.loop.invariant.onward c.in_err-happened.ensures.order)

pub returns-in_err-happened-clause-tells : goal.returns-in_err-happened-clause-tells
returns-in_err-happened-clause-tells g c =
    tells-kept c.args.kernel.now.steps c.loop.kernel.steps c.look.new.kernel.steps c.args.gate.now.steps.list c.loop.gate.steps.list c.loop.invariant.tells c.in_err-happened.ensures.steps

pub returns-in_err-step-in-Some-top-clause-tells : goal.returns-in_err-step-in-Some-top-clause-tells
returns-in_err-step-in-Some-top-clause-tells g c =
    tells-step c.args.kernel.now.steps c.look.new.kernel.steps c.step.new.kernel.steps c.args.gate.now.steps.list c.loop.gate.steps.list (tells-kept c.args.kernel.now.steps c.loop.kernel.steps c.look.new.kernel.steps c.args.gate.now.steps.list c.loop.gate.steps.list c.loop.invariant.tells c.in_ok-happened.ensures.steps) c.in_err-step-in-Some-top.ensures.begun.steps

pub returns-in_err-scan-in-None-top-clause-tells : goal.returns-in_err-scan-in-None-top-clause-tells
returns-in_err-scan-in-None-top-clause-tells g c =
    tells-then c.args.kernel.now.steps c.look.new.kernel.steps c.scan.new.kernel.steps c.args.gate.now.steps.list c.loop.gate.steps.list c.scan.new.gate.steps.list (tells-kept c.args.kernel.now.steps c.loop.kernel.steps c.look.new.kernel.steps c.args.gate.now.steps.list c.loop.gate.steps.list c.loop.invariant.tells c.in_ok-happened.ensures.steps) c.in_err-scan-in-None-top.ensures.tells

pub returns-in_err-step-in-None-top-clause-tells : goal.returns-in_err-step-in-None-top-clause-tells
returns-in_err-step-in-None-top-clause-tells g c =
    tells-step c.args.kernel.now.steps c.scan.new.kernel.steps c.step-then-branch.new.kernel.steps c.args.gate.now.steps.list c.scan.new.gate.steps.list (tells-then c.args.kernel.now.steps c.look.new.kernel.steps c.scan.new.kernel.steps c.args.gate.now.steps.list c.loop.gate.steps.list c.scan.new.gate.steps.list (tells-kept c.args.kernel.now.steps c.loop.kernel.steps c.look.new.kernel.steps c.args.gate.now.steps.list c.loop.gate.steps.list c.loop.invariant.tells c.in_ok-happened.ensures.steps) c.in_ok-scan-in-None-top.ensures.tells) c.in_err-step-in-None-top.ensures.begun.steps

pub returns-in_err-rest-in-None-top-clause-tells : goal.returns-in_err-rest-in-None-top-clause-tells
returns-in_err-rest-in-None-top-clause-tells g c =
    tells-then c.args.kernel.now.steps c.look.new.kernel.steps c.scan.new.kernel.steps c.args.gate.now.steps.list c.loop.gate.steps.list c.scan.new.gate.steps.list (tells-kept c.args.kernel.now.steps c.loop.kernel.steps c.look.new.kernel.steps c.args.gate.now.steps.list c.loop.gate.steps.list c.loop.invariant.tells c.in_ok-happened.ensures.steps) c.in_ok-scan-in-None-top.ensures.tells

pub returns-then-not-happened-clause-tells : goal.returns-then-not-happened-clause-tells
returns-then-not-happened-clause-tells g c =
    tells-then c.args.kernel.now.steps c.look.new.kernel.steps c.scan.new.kernel.steps c.args.gate.now.steps.list c.loop.gate.steps.list c.scan.new.gate.steps.list (tells-kept c.args.kernel.now.steps c.loop.kernel.steps c.look.new.kernel.steps c.args.gate.now.steps.list c.loop.gate.steps.list c.loop.invariant.tells c.in_ok-happened.ensures.steps) c.in_ok-scan-in-None-top.ensures.tells
