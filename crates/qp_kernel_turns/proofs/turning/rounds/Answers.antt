use Rattle.std.proofs.Common.{◌≡◌, ◌∙◌, [], Ok, arith, false, refl, subst, sym, true}
use Rattle.qp_model.specs.KernelLane.{above}
use Rattle.qp_kernel_turns.specs.BaseRows.{InRow}
use Rattle.qp_kernel_turns.specs.Counting.{BeginsFound}
use Rattle.qp_kernel_turns.specs.TurnRows.{VisitsRow}
use Rattle.qp_kernel_turns.specs.Ordering.{LooksInOrder, VisitsInOrder}
use Rattle.qp_kernel_turns.specs.Turning.{LooksTo, VisitsTo, stand_of, terms_of}
use Rattle.std.proofs.lemmas.Result.{err_from_is_err_and}
use Rattle.qp_kernel_turns.proofs.Asking.{asks-kept, asks-none, asks-row, asks-then}
use Rattle.qp_kernel_turns.proofs.Counting.{counted-none, counted-on, counted-then, less-looks, never-still, none-top, steps-none, steps-same, still-before, still-step}
use Rattle.qp_kernel_turns.proofs.Pending.{steps-over}
use Rattle.qp_kernel_turns.proofs.Tops.{empty-is}
use Rattle.qp_kernel_turns.proofs.Lanes.{goes-any, goes-none, goes-then, halts-any, halts-then, looked-scanned}
use Rattle.qp_kernel_turns.proofs.Ordered.{halts-from}
use Rattle.qp_kernel_turns.proofs.RoundRows.{row-again, row-begins, row-found, row-over, row-steps, stops-from, within-idle}
use Rattle.qp_kernel_turns.proofs.Rounds.{came-is, entered-all, held-of, onward-all, onward-none, round-again, round-found, round-idle, round-over, round-step, round-top}
use Rattle.qp_told.proofs.ToldLemmas.{tells-kept, tells-none, tells-step, tells-then}
use Rattle.qp_kernel_turns.proofs.turning.rounds.Goals as goal

pub floor-low-requires-clause-held : goal.floor-low-requires-clause-held
floor-low-requires-clause-held g c =
    held-of c.args.at.now.sys.now (terms_of c.args.at.now) c.loop.kernel.looks c.loop.kernel.stack.items c.loop.objects (g.W.Ops.lane c.loop.world) c.loop.invariant.knows

pub step-requires-in-Some-top-clause-knows : goal.step-requires-in-Some-top-clause-knows
step-requires-in-Some-top-clause-knows g c =
    let sys = c.args.at.now.sys.now in
    let terms = (terms_of c.args.at.now) in
    let lane = g.W.Ops.lane in
    let a = stand_of c.loop.kernel c.loop.objects (lane c.loop.world) in
    let b = stand_of c.look.new.kernel c.loop.objects (lane c.look.new.world) in
    let d = stand_of c.scan.new.kernel c.scan.new.objects (lane c.scan.new.world) in
    let pass = subst (λ x. VisitsTo [] sys terms b d (Ok x)) c.if-found.false c.in_ok-found.ensures.goes in
    round-top sys terms c.in-Some-top.field-0 b d pass c.in-Some-top.ensures

pub returns-then-not-happened : goal.returns-then-not-happened
returns-then-not-happened g c =
    let sys = c.args.at.now.sys.now in
    let terms = (terms_of c.args.at.now) in
    let lane = g.W.Ops.lane in
    let a = stand_of c.loop.kernel c.loop.objects (lane c.loop.world) in
    let b = stand_of c.look.new.kernel c.loop.objects (lane c.look.new.world) in
    let d = stand_of c.scan.new.kernel c.scan.new.objects (lane c.scan.new.world) in
    let pass = subst (λ x. VisitsTo [] sys terms b d (Ok x)) c.if-found.false c.in_ok-found.ensures.goes in
    let look = subst (λ x. LooksTo sys terms a b (Ok x)) c.if-not-happened.true c.in_ok-happened.ensures.goes in
    let over = round-over sys terms c.args.objects.now (lane c.args.world.now) a b d c.loop.invariant.onward c.requires.plain look pass c.in-None-top.ensures in
    let seen = subst (λ x. VisitsInOrder g.W.World.acts sys c.floor-low.result 0 b d (Ok x)) c.if-found.false c.in_ok-found.ensures.order in
    let looked = subst (λ x. LooksInOrder g.W.World.acts sys terms a b (Ok x)) c.if-not-happened.true c.in_ok-happened.ensures.order in
    let steps-end =
    steps-over sys c.args.kernel.now c.scan.new.kernel c.args.objects.now c.scan.new.objects (lane c.args.world.now) d.lane (counted-then 0 (omega arith) c.args.kernel.now c.loop.kernel c.look.new.kernel c.scan.new.kernel c.args.objects.now c.loop.objects c.scan.new.objects c.loop.invariant.counted c.in_ok-happened.ensures.steps c.in_ok-happened.ensures.goes.counted (subst (λ x. BeginsFound c.look.new.kernel c.scan.new.kernel c.loop.objects c.scan.new.objects (Ok x)) c.if-found.false c.in_ok-found.ensures.begun) pass.looks)
    (round-idle g.W.World.acts sys c.requires.sound terms a b d c.floor-low.result c.floor-low.ensures look looked pass seen c.in-None-top.ensures).empties
    (λ base same.
    let q = c.loop.invariant.quiet base (still-before c.args.kernel.now c.loop.kernel c.look.new.kernel c.scan.new.kernel c.args.objects.now c.loop.objects c.scan.new.objects c.in_ok-happened.ensures.steps (subst (λ x. BeginsFound c.look.new.kernel c.scan.new.kernel c.loop.objects c.scan.new.objects (Ok x)) c.if-found.false c.in_ok-found.ensures.begun) same) in
    λ p h. seen.stays p (look.stays p (q.1 p h))) in
    record {
      goes = record { knows = over.knows; onward = over.onward; again = over.again };
      order = round-idle g.W.World.acts sys c.requires.sound terms a b d c.floor-low.result c.floor-low.ensures look looked pass seen c.in-None-top.ensures;
      rests = tt;
      lane = looked-scanned g.W.World.acts (lane c.args.world.now) (lane c.loop.world) (lane c.look.new.world) (lane c.scan.new.world) c.loop.invariant.lane c.in_ok-happened.ensures.lane c.in_ok-found.ensures.lane;
      counted = counted-then 0 (omega arith) c.args.kernel.now c.loop.kernel c.look.new.kernel c.scan.new.kernel c.args.objects.now c.loop.objects c.scan.new.objects c.loop.invariant.counted c.in_ok-happened.ensures.steps c.in_ok-happened.ensures.goes.counted (subst (λ x. BeginsFound c.look.new.kernel c.scan.new.kernel c.loop.objects c.scan.new.objects (Ok x)) c.if-found.false c.in_ok-found.ensures.begun) pass.looks;
      tells = tells-then c.args.kernel.now.steps c.look.new.kernel.steps c.scan.new.kernel.steps c.args.gate.now.steps.list c.loop.gate.steps.list c.scan.new.gate.steps.list (tells-kept c.args.kernel.now.steps c.loop.kernel.steps c.look.new.kernel.steps c.args.gate.now.steps.list c.loop.gate.steps.list c.loop.invariant.tells c.in_ok-happened.ensures.steps) c.in_ok-found.ensures.tells;
      asks = asks-row g.W.World.acts c.args.kernel.now c.loop.kernel c.look.new.kernel c.scan.new.kernel (lane c.args.world.now) (lane c.loop.world) (lane c.look.new.world) (lane c.scan.new.world) c.loop.invariant.asks c.in_ok-happened.ensures.asks c.in_ok-found.ensures.asks;
      pending = steps-end;
      rows = λ apart. row-over sys terms c.args.kernel.now c.loop.kernel (lane c.args.world.now) a.lane (c.loop.invariant.rows apart) c.scan.new.kernel d (subst (λ x. VisitsRow sys terms (above sys c.floor-low.result) [] b.lane d.lane (Ok x)) c.if-found.false c.in_ok-found.ensures.rows a.lane (subst (λ f. InRow sys terms (above sys f) a.lane b.lane) (sym c.floor-low.ensures) c.in_ok-happened.ensures.goes.row)) (steps-same c.loop.kernel c.look.new.kernel c.scan.new.kernel c.loop.objects c.scan.new.objects c.in_ok-happened.ensures.steps (subst (λ x. BeginsFound c.look.new.kernel c.scan.new.kernel c.loop.objects c.scan.new.objects (Ok x)) c.if-found.false c.in_ok-found.ensures.begun)) pass.knows steps-end;
    }

pub loop-preserved : goal.loop-preserved
loop-preserved g c =
    let sys = c.args.at.now.sys.now in
    let terms = (terms_of c.args.at.now) in
    let lane = g.W.Ops.lane in
    let a = stand_of c.loop.kernel c.loop.objects (lane c.loop.world) in
    let b = stand_of c.look.new.kernel c.loop.objects (lane c.look.new.world) in
    let d = stand_of c.scan.new.kernel c.scan.new.objects (lane c.scan.new.world) in
    let pass = subst (λ x. VisitsTo [] sys terms b d (Ok x)) c.if-found.false c.in_ok-found.ensures.goes in
    let look = subst (λ x. LooksTo sys terms a b (Ok x)) c.if-not-happened.false c.in_ok-happened.ensures.goes in
    let again = round-again sys terms c.args.objects.now (lane c.args.world.now) a b d c.loop.invariant.onward c.requires.plain look pass c.in-None-top.ensures in
    let seen = subst (λ x. VisitsInOrder g.W.World.acts sys c.floor-low.result 0 b d (Ok x)) c.if-found.false c.in_ok-found.ensures.order in
    record {
      knows = again.0;
      onward = again.1;
      order = seen.order;
      lane = looked-scanned g.W.World.acts (lane c.args.world.now) (lane c.loop.world) (lane c.look.new.world) (lane c.scan.new.world) c.loop.invariant.lane c.in_ok-happened.ensures.lane c.in_ok-found.ensures.lane;
      counted = counted-then 0 (omega arith) c.args.kernel.now c.loop.kernel c.look.new.kernel c.scan.new.kernel c.args.objects.now c.loop.objects c.scan.new.objects c.loop.invariant.counted c.in_ok-happened.ensures.steps c.in_ok-happened.ensures.goes.counted (subst (λ x. BeginsFound c.look.new.kernel c.scan.new.kernel c.loop.objects c.scan.new.objects (Ok x)) c.if-found.false c.in_ok-found.ensures.begun) pass.looks;
      tells = tells-then c.args.kernel.now.steps c.look.new.kernel.steps c.scan.new.kernel.steps c.args.gate.now.steps.list c.loop.gate.steps.list c.scan.new.gate.steps.list (tells-kept c.args.kernel.now.steps c.loop.kernel.steps c.look.new.kernel.steps c.args.gate.now.steps.list c.loop.gate.steps.list c.loop.invariant.tells c.in_ok-happened.ensures.steps) c.in_ok-found.ensures.tells;
      asks = asks-row g.W.World.acts c.args.kernel.now c.loop.kernel c.look.new.kernel c.scan.new.kernel (lane c.args.world.now) (lane c.loop.world) (lane c.look.new.world) (lane c.scan.new.world) c.loop.invariant.asks c.in_ok-happened.ensures.asks c.in_ok-found.ensures.asks;
      rows = λ apart.
          row-again sys terms c.args.kernel.now c.loop.kernel (lane c.args.world.now) a.lane (c.loop.invariant.rows apart) c.scan.new.kernel d (subst (λ x. VisitsRow sys terms (above sys c.floor-low.result) [] b.lane d.lane (Ok x)) c.if-found.false c.in_ok-found.ensures.rows a.lane (subst (λ f. InRow sys terms (above sys f) a.lane b.lane) (sym c.floor-low.ensures) c.in_ok-happened.ensures.goes.row)) (steps-same c.loop.kernel c.look.new.kernel c.scan.new.kernel c.loop.objects c.scan.new.objects c.in_ok-happened.ensures.steps (subst (λ x. BeginsFound c.look.new.kernel c.scan.new.kernel c.loop.objects c.scan.new.objects (Ok x)) c.if-found.false c.in_ok-found.ensures.begun)) pass.knows g.W.World.acts apart (c.in_ok-happened.ensures.rows c.if-not-happened.false) c.requires.plain
          (came-is sys terms c.args.objects.now (lane c.args.world.now) a b d c.loop.invariant.onward true look pass);
      quiet = λ base same.
          let q = c.loop.invariant.quiet base (still-before c.args.kernel.now c.loop.kernel c.look.new.kernel c.scan.new.kernel c.args.objects.now c.loop.objects c.scan.new.objects c.in_ok-happened.ensures.steps (subst (λ x. BeginsFound c.look.new.kernel c.scan.new.kernel c.loop.objects c.scan.new.objects (Ok x)) c.if-found.false c.in_ok-found.ensures.begun) same) in
          (empty-is d.stack c.in-None-top.ensures, λ p h. seen.stays p (look.stays p (q.1 p h)));
    }

pub returns-in_err-step-clause-order : goal.returns-in_err-step-clause-order
returns-in_err-step-clause-order g c =
    let sys = c.args.at.now.sys.now in
    let terms = (terms_of c.args.at.now) in
    let lane = g.W.Ops.lane in
    let a = stand_of c.loop.kernel c.loop.objects (lane c.loop.world) in
    let b = stand_of c.look.new.kernel c.loop.objects (lane c.look.new.world) in
    let d = stand_of c.scan.new.kernel c.scan.new.objects (lane c.scan.new.world) in
    let enter = subst (λ x. VisitsTo [] sys terms b d (Ok x)) c.if-found.true c.in_ok-found.ensures.goes in
    let seen = subst (λ x. VisitsInOrder g.W.World.acts sys c.floor-low.result 0 b d (Ok x)) c.if-found.true c.in_ok-found.ensures.order in
    let p = err_from_is_err_and c.from_residual-in_err-step.result c.from_residual-in_err-step.ensures.1 in
    let on = entered-all sys terms c.args.objects.now (lane c.args.world.now) a b d c.loop.invariant.onward c.in_ok-happened.happened c.in_ok-happened.ensures.goes enter in
    rw (p.1, p.2)
    (halts-from g.W.World.acts sys c.args.objects.now (lane c.args.world.now) c.scan.new.objects (lane c.scan.new.world) (lane c.step.new.world) c.in_err-step.field-0.0 c.requires.knows.knows.lane.of enter.runs.knows.knows.lane.of on
    (c.in_err-step.ensures.order g.W.World.acts seen))

pub returns-in_err-step-in-Some-top-clause-order : goal.returns-in_err-step-in-Some-top-clause-order
returns-in_err-step-in-Some-top-clause-order g c =
    let sys = c.args.at.now.sys.now in
    let terms = (terms_of c.args.at.now) in
    let lane = g.W.Ops.lane in
    let a = stand_of c.loop.kernel c.loop.objects (lane c.loop.world) in
    let b = stand_of c.look.new.kernel c.loop.objects (lane c.look.new.world) in
    let d = stand_of c.scan.new.kernel c.scan.new.objects (lane c.scan.new.world) in
    let pass = subst (λ x. VisitsTo [] sys terms b d (Ok x)) c.if-found.false c.in_ok-found.ensures.goes in
    let seen = (subst (λ x. VisitsInOrder g.W.World.acts sys c.floor-low.result 0 b d (Ok x)) c.if-found.false c.in_ok-found.ensures.order).order in
    let p = err_from_is_err_and c.from_residual-in_err-step-in-Some-top.result c.from_residual-in_err-step-in-Some-top.ensures.1 in
    let on = onward-all sys terms c.args.objects.now (lane c.args.world.now) a b d c.loop.invariant.onward c.in_ok-happened.happened c.in_ok-happened.ensures.goes pass in
    rw (p.1, p.2)
    (halts-from g.W.World.acts sys c.args.objects.now (lane c.args.world.now) c.scan.new.objects (lane c.scan.new.world) (lane c.step-in-Some-top.new.world) c.in_err-step-in-Some-top.field-0.0 c.requires.knows.knows.lane.of pass.knows.knows.lane.of on
    (c.in_err-step-in-Some-top.ensures.order g.W.World.acts seen))

pub loop-preserved-in-Continue-branch-3 : goal.loop-preserved-in-Continue-branch-3
loop-preserved-in-Continue-branch-3 g c =
    let sys = c.args.at.now.sys.now in
    let terms = (terms_of c.args.at.now) in
    let lane = g.W.Ops.lane in
    let a = stand_of c.loop.kernel c.loop.objects (lane c.loop.world) in
    let b = stand_of c.look.new.kernel c.loop.objects (lane c.look.new.world) in
    let d = stand_of c.scan.new.kernel c.scan.new.objects (lane c.scan.new.world) in
    let enter = subst (λ x. VisitsTo [] sys terms b d (Ok x)) c.if-found.true c.in_ok-found.ensures.goes in
    let seen = subst (λ x. VisitsInOrder g.W.World.acts sys c.floor-low.result 0 b d (Ok x)) c.if-found.true c.in_ok-found.ensures.order in
    let z = stand_of c.step.new.kernel c.step.new.objects (lane c.step.new.world) in
    let on = round-found sys terms c.args.objects.now (lane c.args.world.now) a b d c.loop.invariant.onward c.in_ok-happened.happened z c.in_ok-happened.ensures.goes enter c.in_ok-step.ensures.goes in
    record {
      knows = on.0;
      onward = on.1;
      order = c.in_ok-step.ensures.order g.W.World.acts seen;
      lane = goes-then g.W.World.acts (lane c.args.world.now) (lane c.scan.new.world) (lane c.step.new.world) (looked-scanned g.W.World.acts (lane c.args.world.now) (lane c.loop.world) (lane c.look.new.world) (lane c.scan.new.world) c.loop.invariant.lane c.in_ok-happened.ensures.lane c.in_ok-found.ensures.lane) (goes-any g.W.World.acts (lane c.scan.new.world) (lane c.step.new.world) c.in_ok-step.ensures.lane);
      counted = counted-on c.args.kernel.now c.scan.new.kernel c.step.new.kernel c.args.objects.now c.scan.new.objects c.step.new.objects (counted-then 1 (omega arith) c.args.kernel.now c.loop.kernel c.look.new.kernel c.scan.new.kernel c.args.objects.now c.loop.objects c.scan.new.objects c.loop.invariant.counted c.in_ok-happened.ensures.steps c.in_ok-happened.ensures.goes.counted (subst (λ x. BeginsFound c.look.new.kernel c.scan.new.kernel c.loop.objects c.scan.new.objects (Ok x)) c.if-found.true c.in_ok-found.ensures.begun) enter.looks) c.in_ok-step.ensures.begun c.in_ok-step.ensures.goes.looks;
      tells = tells-step c.args.kernel.now.steps c.scan.new.kernel.steps c.step.new.kernel.steps c.args.gate.now.steps.list c.scan.new.gate.steps.list (tells-then c.args.kernel.now.steps c.look.new.kernel.steps c.scan.new.kernel.steps c.args.gate.now.steps.list c.loop.gate.steps.list c.scan.new.gate.steps.list (tells-kept c.args.kernel.now.steps c.loop.kernel.steps c.look.new.kernel.steps c.args.gate.now.steps.list c.loop.gate.steps.list c.loop.invariant.tells c.in_ok-happened.ensures.steps) c.in_ok-found.ensures.tells) c.in_ok-step.ensures.begun.steps;
      asks = asks-then g.W.World.acts c.args.kernel.now c.scan.new.kernel c.step.new.kernel (lane c.args.world.now) (lane c.scan.new.world) (lane c.step.new.world) (asks-row g.W.World.acts c.args.kernel.now c.loop.kernel c.look.new.kernel c.scan.new.kernel (lane c.args.world.now) (lane c.loop.world) (lane c.look.new.world) (lane c.scan.new.world) c.loop.invariant.asks c.in_ok-happened.ensures.asks c.in_ok-found.ensures.asks) (asks-kept g.W.World.acts c.scan.new.kernel c.step.new.kernel (lane c.scan.new.world) (lane c.step.new.world) c.in_ok-step.ensures.looks (steps-none c.scan.new.kernel c.step.new.kernel c.scan.new.objects c.step.new.objects c.in_ok-step.ensures.begun) (λ apart. c.in_ok-step.ensures.lane.keeps.asks refl));
      rows = λ apart. row-found sys terms c.args.kernel.now c.loop.kernel (lane c.args.world.now) a.lane (c.loop.invariant.rows apart) c.step.new.kernel d.lane z.lane (subst (λ x. VisitsRow sys terms (above sys c.floor-low.result) [] b.lane d.lane (Ok x)) c.if-found.true c.in_ok-found.ensures.rows a.lane (subst (λ f. InRow sys terms (above sys f) a.lane b.lane) (sym c.floor-low.ensures) c.in_ok-happened.ensures.goes.row)) c.in_ok-step.ensures.goes.row;
      quiet = λ base same. absurd (never-still c.args.kernel.now c.loop.kernel c.look.new.kernel c.scan.new.kernel c.step.new.kernel c.args.objects.now c.loop.objects c.scan.new.objects c.step.new.objects c.loop.invariant.counted c.in_ok-happened.ensures.steps (subst (λ x. BeginsFound c.look.new.kernel c.scan.new.kernel c.loop.objects c.scan.new.objects (Ok x)) c.if-found.true c.in_ok-found.ensures.begun) c.in_ok-step.ensures.begun same);
    }

pub loop-preserved-in-Continue-branch-4 : goal.loop-preserved-in-Continue-branch-4
loop-preserved-in-Continue-branch-4 g c =
    let sys = c.args.at.now.sys.now in
    let terms = (terms_of c.args.at.now) in
    let lane = g.W.Ops.lane in
    let a = stand_of c.loop.kernel c.loop.objects (lane c.loop.world) in
    let b = stand_of c.look.new.kernel c.loop.objects (lane c.look.new.world) in
    let d = stand_of c.scan.new.kernel c.scan.new.objects (lane c.scan.new.world) in
    let pass = subst (λ x. VisitsTo [] sys terms b d (Ok x)) c.if-found.false c.in_ok-found.ensures.goes in
    let seen = (subst (λ x. VisitsInOrder g.W.World.acts sys c.floor-low.result 0 b d (Ok x)) c.if-found.false c.in_ok-found.ensures.order).order in
    let z = stand_of c.step-in-Some-top.new.kernel c.step-in-Some-top.new.objects (lane c.step-in-Some-top.new.world) in
    let on = round-step sys terms c.args.objects.now (lane c.args.world.now) a b d c.loop.invariant.onward c.in_ok-happened.happened z c.in_ok-happened.ensures.goes pass c.in_ok-step-in-Some-top.ensures.goes in
    record {
      knows = on.0;
      onward = on.1;
      order = c.in_ok-step-in-Some-top.ensures.order g.W.World.acts seen;
      lane = goes-then g.W.World.acts (lane c.args.world.now) (lane c.scan.new.world) (lane c.step-in-Some-top.new.world) (looked-scanned g.W.World.acts (lane c.args.world.now) (lane c.loop.world) (lane c.look.new.world) (lane c.scan.new.world) c.loop.invariant.lane c.in_ok-happened.ensures.lane c.in_ok-found.ensures.lane) (goes-any g.W.World.acts (lane c.scan.new.world) (lane c.step-in-Some-top.new.world) c.in_ok-step-in-Some-top.ensures.lane);
      counted = counted-on c.args.kernel.now c.scan.new.kernel c.step-in-Some-top.new.kernel c.args.objects.now c.scan.new.objects c.step-in-Some-top.new.objects (counted-then 0 (omega arith) c.args.kernel.now c.loop.kernel c.look.new.kernel c.scan.new.kernel c.args.objects.now c.loop.objects c.scan.new.objects c.loop.invariant.counted c.in_ok-happened.ensures.steps c.in_ok-happened.ensures.goes.counted (subst (λ x. BeginsFound c.look.new.kernel c.scan.new.kernel c.loop.objects c.scan.new.objects (Ok x)) c.if-found.false c.in_ok-found.ensures.begun) pass.looks) c.in_ok-step-in-Some-top.ensures.begun c.in_ok-step-in-Some-top.ensures.goes.looks;
      tells = tells-step c.args.kernel.now.steps c.scan.new.kernel.steps c.step-in-Some-top.new.kernel.steps c.args.gate.now.steps.list c.scan.new.gate.steps.list (tells-then c.args.kernel.now.steps c.look.new.kernel.steps c.scan.new.kernel.steps c.args.gate.now.steps.list c.loop.gate.steps.list c.scan.new.gate.steps.list (tells-kept c.args.kernel.now.steps c.loop.kernel.steps c.look.new.kernel.steps c.args.gate.now.steps.list c.loop.gate.steps.list c.loop.invariant.tells c.in_ok-happened.ensures.steps) c.in_ok-found.ensures.tells) c.in_ok-step-in-Some-top.ensures.begun.steps;
      asks = asks-then g.W.World.acts c.args.kernel.now c.scan.new.kernel c.step-in-Some-top.new.kernel (lane c.args.world.now) (lane c.scan.new.world) (lane c.step-in-Some-top.new.world) (asks-row g.W.World.acts c.args.kernel.now c.loop.kernel c.look.new.kernel c.scan.new.kernel (lane c.args.world.now) (lane c.loop.world) (lane c.look.new.world) (lane c.scan.new.world) c.loop.invariant.asks c.in_ok-happened.ensures.asks c.in_ok-found.ensures.asks) (asks-kept g.W.World.acts c.scan.new.kernel c.step-in-Some-top.new.kernel (lane c.scan.new.world) (lane c.step-in-Some-top.new.world) c.in_ok-step-in-Some-top.ensures.looks (steps-none c.scan.new.kernel c.step-in-Some-top.new.kernel c.scan.new.objects c.step-in-Some-top.new.objects c.in_ok-step-in-Some-top.ensures.begun) (λ apart. c.in_ok-step-in-Some-top.ensures.lane.keeps.asks refl));
      rows = λ apart.
          row-steps sys terms c.args.kernel.now c.loop.kernel (lane c.args.world.now) a.lane (c.loop.invariant.rows apart) c.scan.new.kernel d (subst (λ x. VisitsRow sys terms (above sys c.floor-low.result) [] b.lane d.lane (Ok x)) c.if-found.false c.in_ok-found.ensures.rows a.lane (subst (λ f. InRow sys terms (above sys f) a.lane b.lane) (sym c.floor-low.ensures) c.in_ok-happened.ensures.goes.row)) (steps-same c.loop.kernel c.look.new.kernel c.scan.new.kernel c.loop.objects c.scan.new.objects c.in_ok-happened.ensures.steps (subst (λ x. BeginsFound c.look.new.kernel c.scan.new.kernel c.loop.objects c.scan.new.objects (Ok x)) c.if-found.false c.in_ok-found.ensures.begun)) pass.knows c.in-Some-top.field-0 c.step-in-Some-top.new.kernel z.lane c.in-Some-top.ensures
          (steps-none c.scan.new.kernel c.step-in-Some-top.new.kernel c.scan.new.objects c.step-in-Some-top.new.objects c.in_ok-step-in-Some-top.ensures.begun) c.in_ok-step-in-Some-top.ensures.goes.row;
      quiet = λ base same.
          let begun = subst (λ x. BeginsFound c.look.new.kernel c.scan.new.kernel c.loop.objects c.scan.new.objects (Ok x)) c.if-found.false c.in_ok-found.ensures.begun in
          let scanned = still-step c.args.kernel.now c.scan.new.kernel c.step-in-Some-top.new.kernel c.scan.new.objects c.step-in-Some-top.new.objects c.in_ok-step-in-Some-top.ensures.begun same in
          let q = c.loop.invariant.quiet base (still-before c.args.kernel.now c.loop.kernel c.look.new.kernel c.scan.new.kernel c.args.objects.now c.loop.objects c.scan.new.objects c.in_ok-happened.ensures.steps begun scanned) in
          absurd (none-top c.in-Some-top.field-0 d.stack (pass.stack ∙ c.in_ok-happened.ensures.goes.stack ∙ q.0) c.in-Some-top.ensures);
    }

pub scan-requires-clause-turn : goal.scan-requires-clause-turn
scan-requires-clause-turn g c =
    less-looks c.args.kernel.now c.loop.kernel c.look.new.kernel c.args.objects.now c.loop.objects c.loop.invariant.counted c.in_ok-happened.ensures.steps c.in_ok-happened.ensures.goes.counted

pub returns-in_err-happened-clause-lane : goal.returns-in_err-happened-clause-lane
returns-in_err-happened-clause-lane g c =
    let lane = g.W.Ops.lane in
    let p = err_from_is_err_and c.from_residual.result c.from_residual.ensures.1 in
    rw (p.1, p.2)
    (halts-then g.W.World.acts (lane c.args.world.now) (lane c.loop.world) (lane c.look.new.world) c.in_err-happened.field-0.0 c.loop.invariant.lane c.in_err-happened.ensures.lane)

pub returns-in_err-found-clause-lane : goal.returns-in_err-found-clause-lane
returns-in_err-found-clause-lane g c =
    let lane = g.W.Ops.lane in
    let p = err_from_is_err_and c.from_residual-in_err-found.result c.from_residual-in_err-found.ensures.1 in
    rw (p.1, p.2)
    (halts-then g.W.World.acts (lane c.args.world.now) (lane c.look.new.world) (lane c.scan.new.world) c.in_err-found.field-0.0 (goes-then g.W.World.acts (lane c.args.world.now) (lane c.loop.world) (lane c.look.new.world) c.loop.invariant.lane c.in_ok-happened.ensures.lane) c.in_err-found.ensures.lane)

pub returns-in_err-step-clause-lane : goal.returns-in_err-step-clause-lane
returns-in_err-step-clause-lane g c =
    let lane = g.W.Ops.lane in
    let p = err_from_is_err_and c.from_residual-in_err-step.result c.from_residual-in_err-step.ensures.1 in
    rw (p.1, p.2)
    (halts-then g.W.World.acts (lane c.args.world.now) (lane c.scan.new.world) (lane c.step.new.world) c.in_err-step.field-0.0 (looked-scanned g.W.World.acts (lane c.args.world.now) (lane c.loop.world) (lane c.look.new.world) (lane c.scan.new.world) c.loop.invariant.lane c.in_ok-happened.ensures.lane c.in_ok-found.ensures.lane) (halts-any g.W.World.acts (lane c.scan.new.world) (lane c.step.new.world) c.in_err-step.field-0.0 c.in_err-step.ensures.lane))

pub returns-in_err-step-in-Some-top-clause-lane : goal.returns-in_err-step-in-Some-top-clause-lane
returns-in_err-step-in-Some-top-clause-lane g c =
    let lane = g.W.Ops.lane in
    let p = err_from_is_err_and c.from_residual-in_err-step-in-Some-top.result c.from_residual-in_err-step-in-Some-top.ensures.1 in
    rw (p.1, p.2)
    (halts-then g.W.World.acts (lane c.args.world.now) (lane c.scan.new.world) (lane c.step-in-Some-top.new.world) c.in_err-step-in-Some-top.field-0.0 (looked-scanned g.W.World.acts (lane c.args.world.now) (lane c.loop.world) (lane c.look.new.world) (lane c.scan.new.world) c.loop.invariant.lane c.in_ok-happened.ensures.lane c.in_ok-found.ensures.lane) (halts-any g.W.World.acts (lane c.scan.new.world) (lane c.step-in-Some-top.new.world) c.in_err-step-in-Some-top.field-0.0 c.in_err-step-in-Some-top.ensures.lane))

pub loop-init : goal.loop-init
loop-init g c = record {
  knows = c.requires.knows;
  onward = onward-none c.args.objects.now (g.W.Ops.lane c.args.world.now);
  order = c.requires.order;
  lane = goes-none g.W.World.acts (g.W.Ops.lane c.args.world.now);
  counted = counted-none c.args.kernel.now c.args.objects.now c.requires.counted;
  tells = tells-none c.args.kernel.now.steps c.args.gate.now.steps.list;
  asks = asks-none g.W.World.acts c.args.kernel.now (g.W.Ops.lane c.args.world.now);
  rows = λ apart. row-begins c.args.at.now.sys.now (terms_of c.args.at.now) c.args.kernel.now (g.W.Ops.lane c.args.world.now);
  quiet = λ base same. (base, λ p h. h);
}

pub floor-low-requires-clause-single : goal.floor-low-requires-clause-single
floor-low-requires-clause-single g c = λ alone. let wrong : true ≡ false = sym alone ∙ c.requires.plain in absurd (cc)

pub returns-in_err-happened-clause-rows : goal.returns-in_err-happened-clause-rows
returns-in_err-happened-clause-rows g c =
    let sys = c.args.at.now.sys.now in
    let terms = (terms_of c.args.at.now) in
    let lane = g.W.Ops.lane in
    let p = err_from_is_err_and c.from_residual.result c.from_residual.ensures.1 in
    rw (p.1, p.2)
    (λ apart. stops-from sys terms c.args.kernel.now c.loop.kernel (lane c.args.world.now) (lane c.loop.world) (c.loop.invariant.rows apart) (lane c.loop.world) (lane c.look.new.world) c.in_err-happened.field-0.0 refl c.in_err-happened.ensures.rows)

pub returns-in_err-found-clause-rows : goal.returns-in_err-found-clause-rows
returns-in_err-found-clause-rows g c =
    let sys = c.args.at.now.sys.now in
    let terms = (terms_of c.args.at.now) in
    let lane = g.W.Ops.lane in
    let a = stand_of c.loop.kernel c.loop.objects (lane c.loop.world) in
    let b = stand_of c.look.new.kernel c.loop.objects (lane c.look.new.world) in
    let p = err_from_is_err_and c.from_residual-in_err-found.result c.from_residual-in_err-found.ensures.1 in
    rw (p.1, p.2)
    (λ apart. stops-from sys terms c.args.kernel.now c.loop.kernel (lane c.args.world.now) a.lane (c.loop.invariant.rows apart) a.lane (lane c.scan.new.world) c.in_err-found.field-0.0 refl
    (c.in_err-found.ensures.rows a.lane (subst (λ f. InRow sys terms (above sys f) a.lane b.lane) (sym c.floor-low.ensures) c.in_ok-happened.ensures.goes.row)))

pub returns-in_err-step-clause-rows : goal.returns-in_err-step-clause-rows
returns-in_err-step-clause-rows g c =
    let sys = c.args.at.now.sys.now in
    let terms = (terms_of c.args.at.now) in
    let lane = g.W.Ops.lane in
    let a = stand_of c.loop.kernel c.loop.objects (lane c.loop.world) in
    let b = stand_of c.look.new.kernel c.loop.objects (lane c.look.new.world) in
    let d = stand_of c.scan.new.kernel c.scan.new.objects (lane c.scan.new.world) in
    let p = err_from_is_err_and c.from_residual-in_err-step.result c.from_residual-in_err-step.ensures.1 in
    rw (p.1, p.2)
    (λ apart. stops-from sys terms c.args.kernel.now c.loop.kernel (lane c.args.world.now) a.lane (c.loop.invariant.rows apart) d.lane (lane c.step.new.world) c.in_err-step.field-0.0
    (subst (λ x. VisitsRow sys terms (above sys c.floor-low.result) [] b.lane d.lane (Ok x)) c.if-found.true c.in_ok-found.ensures.rows a.lane (subst (λ f. InRow sys terms (above sys f) a.lane b.lane) (sym c.floor-low.ensures) c.in_ok-happened.ensures.goes.row)).idle c.in_err-step.ensures.rows)

pub returns-in_err-step-in-Some-top-clause-rows : goal.returns-in_err-step-in-Some-top-clause-rows
returns-in_err-step-in-Some-top-clause-rows g c =
    let sys = c.args.at.now.sys.now in
    let terms = (terms_of c.args.at.now) in
    let lane = g.W.Ops.lane in
    let a = stand_of c.loop.kernel c.loop.objects (lane c.loop.world) in
    let b = stand_of c.look.new.kernel c.loop.objects (lane c.look.new.world) in
    let d = stand_of c.scan.new.kernel c.scan.new.objects (lane c.scan.new.world) in
    let pass = subst (λ x. VisitsTo [] sys terms b d (Ok x)) c.if-found.false c.in_ok-found.ensures.goes in
    let p = err_from_is_err_and c.from_residual-in_err-step-in-Some-top.result c.from_residual-in_err-step-in-Some-top.ensures.1 in
    rw (p.1, p.2)
    (λ apart. stops-from sys terms c.args.kernel.now c.loop.kernel (lane c.args.world.now) a.lane (c.loop.invariant.rows apart) d.lane (lane c.step-in-Some-top.new.world) c.in_err-step-in-Some-top.field-0.0
    (within-idle sys terms c.args.kernel.now c.loop.kernel (lane c.args.world.now) a.lane (c.loop.invariant.rows apart) c.scan.new.kernel d (subst (λ x. VisitsRow sys terms (above sys c.floor-low.result) [] b.lane d.lane (Ok x)) c.if-found.false c.in_ok-found.ensures.rows a.lane (subst (λ f. InRow sys terms (above sys f) a.lane b.lane) (sym c.floor-low.ensures) c.in_ok-happened.ensures.goes.row)) (steps-same c.loop.kernel c.look.new.kernel c.scan.new.kernel c.loop.objects c.scan.new.objects c.in_ok-happened.ensures.steps (subst (λ x. BeginsFound c.look.new.kernel c.scan.new.kernel c.loop.objects c.scan.new.objects (Ok x)) c.if-found.false c.in_ok-found.ensures.begun)) pass.knows c.in-Some-top.field-0 c.in-Some-top.ensures) c.in_err-step-in-Some-top.ensures.rows)

pub returns-in_err-happened-clause-tells : goal.returns-in_err-happened-clause-tells
returns-in_err-happened-clause-tells g c = tells-kept c.args.kernel.now.steps c.loop.kernel.steps c.look.new.kernel.steps c.args.gate.now.steps.list c.loop.gate.steps.list c.loop.invariant.tells c.in_err-happened.ensures.steps

pub returns-in_err-found-clause-tells : goal.returns-in_err-found-clause-tells
returns-in_err-found-clause-tells g c = tells-then c.args.kernel.now.steps c.look.new.kernel.steps c.scan.new.kernel.steps c.args.gate.now.steps.list c.loop.gate.steps.list c.scan.new.gate.steps.list (tells-kept c.args.kernel.now.steps c.loop.kernel.steps c.look.new.kernel.steps c.args.gate.now.steps.list c.loop.gate.steps.list c.loop.invariant.tells c.in_ok-happened.ensures.steps) c.in_err-found.ensures.tells

pub returns-in_err-step-clause-tells : goal.returns-in_err-step-clause-tells
returns-in_err-step-clause-tells g c = tells-step c.args.kernel.now.steps c.scan.new.kernel.steps c.step.new.kernel.steps c.args.gate.now.steps.list c.scan.new.gate.steps.list (tells-then c.args.kernel.now.steps c.look.new.kernel.steps c.scan.new.kernel.steps c.args.gate.now.steps.list c.loop.gate.steps.list c.scan.new.gate.steps.list (tells-kept c.args.kernel.now.steps c.loop.kernel.steps c.look.new.kernel.steps c.args.gate.now.steps.list c.loop.gate.steps.list c.loop.invariant.tells c.in_ok-happened.ensures.steps) c.in_ok-found.ensures.tells) c.in_err-step.ensures.begun.steps

pub returns-in_err-step-in-Some-top-clause-tells : goal.returns-in_err-step-in-Some-top-clause-tells
returns-in_err-step-in-Some-top-clause-tells g c = tells-step c.args.kernel.now.steps c.scan.new.kernel.steps c.step-in-Some-top.new.kernel.steps c.args.gate.now.steps.list c.scan.new.gate.steps.list (tells-then c.args.kernel.now.steps c.look.new.kernel.steps c.scan.new.kernel.steps c.args.gate.now.steps.list c.loop.gate.steps.list c.scan.new.gate.steps.list (tells-kept c.args.kernel.now.steps c.loop.kernel.steps c.look.new.kernel.steps c.args.gate.now.steps.list c.loop.gate.steps.list c.loop.invariant.tells c.in_ok-happened.ensures.steps) c.in_ok-found.ensures.tells) c.in_err-step-in-Some-top.ensures.begun.steps

pub returns-in_err-happened-clause-asks : goal.returns-in_err-happened-clause-asks
returns-in_err-happened-clause-asks g c =
    let lane = g.W.Ops.lane in
    asks-then g.W.World.acts c.args.kernel.now c.loop.kernel c.look.new.kernel (lane c.args.world.now) (lane c.loop.world) (lane c.look.new.world) c.loop.invariant.asks c.in_err-happened.ensures.asks

pub returns-in_err-found-clause-asks : goal.returns-in_err-found-clause-asks
returns-in_err-found-clause-asks g c =
    let lane = g.W.Ops.lane in
    asks-row g.W.World.acts c.args.kernel.now c.loop.kernel c.look.new.kernel c.scan.new.kernel (lane c.args.world.now) (lane c.loop.world) (lane c.look.new.world) (lane c.scan.new.world) c.loop.invariant.asks c.in_ok-happened.ensures.asks c.in_err-found.ensures.asks

pub returns-in_err-step-clause-asks : goal.returns-in_err-step-clause-asks
returns-in_err-step-clause-asks g c =
    let lane = g.W.Ops.lane in
    asks-then g.W.World.acts c.args.kernel.now c.scan.new.kernel c.step.new.kernel (lane c.args.world.now) (lane c.scan.new.world) (lane c.step.new.world) (asks-row g.W.World.acts c.args.kernel.now c.loop.kernel c.look.new.kernel c.scan.new.kernel (lane c.args.world.now) (lane c.loop.world) (lane c.look.new.world) (lane c.scan.new.world) c.loop.invariant.asks c.in_ok-happened.ensures.asks c.in_ok-found.ensures.asks) (asks-kept g.W.World.acts c.scan.new.kernel c.step.new.kernel (lane c.scan.new.world) (lane c.step.new.world) c.in_err-step.ensures.looks (steps-none c.scan.new.kernel c.step.new.kernel c.scan.new.objects c.step.new.objects c.in_err-step.ensures.begun) (λ apart. c.in_err-step.ensures.lane.keeps.asks refl))

pub returns-in_err-step-in-Some-top-clause-asks : goal.returns-in_err-step-in-Some-top-clause-asks
returns-in_err-step-in-Some-top-clause-asks g c =
    let lane = g.W.Ops.lane in
    asks-then g.W.World.acts c.args.kernel.now c.scan.new.kernel c.step-in-Some-top.new.kernel (lane c.args.world.now) (lane c.scan.new.world) (lane c.step-in-Some-top.new.world) (asks-row g.W.World.acts c.args.kernel.now c.loop.kernel c.look.new.kernel c.scan.new.kernel (lane c.args.world.now) (lane c.loop.world) (lane c.look.new.world) (lane c.scan.new.world) c.loop.invariant.asks c.in_ok-happened.ensures.asks c.in_ok-found.ensures.asks) (asks-kept g.W.World.acts c.scan.new.kernel c.step-in-Some-top.new.kernel (lane c.scan.new.world) (lane c.step-in-Some-top.new.world) c.in_err-step-in-Some-top.ensures.looks (steps-none c.scan.new.kernel c.step-in-Some-top.new.kernel c.scan.new.objects c.step-in-Some-top.new.objects c.in_err-step-in-Some-top.ensures.begun) (λ apart. c.in_err-step-in-Some-top.ensures.lane.keeps.asks refl))
