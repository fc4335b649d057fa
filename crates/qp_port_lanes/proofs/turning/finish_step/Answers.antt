use Rattle.std.proofs.Common.{◌+◌, ◌≤◌, ◌∙◌, ap, arith, false, refl, subst, sym, true}
use Rattle.qp_dispatch.specs.declared.steps.Step.TheVariants as step
use Rattle.qp_kernel_turns.specs.declared.halting.Halt.TheVariants as halt
use Rattle.qp_kernel_turns.specs.Halting.{asked_once}
use Rattle.qp_kernel_turns.specs.Lanes.{LaneGoes}
use Rattle.qp_kernel_turns.proofs.Lanes.{finds-stop, goes-none, goes-once, goes-then, halts-then}
use Rattle.qp_port_lanes.specs.declared.home.Home.{Home}
use Rattle.qp_port_lanes.specs.At.{IsBusyHome}
use Rattle.qp_port_lanes.specs.Takes.{AddsNoTake}
use Rattle.qp_port_lanes.specs.Turning.{HomeStops, NeverEmpty}
use Rattle.qp_port_lanes.proofs.Asking.{busy-once}
use Rattle.qp_port_lanes.proofs.Lanes.{resumed}
use Rattle.qp_port_lanes.proofs.Never.{never-same, never-then}
use Rattle.qp_port_lanes.proofs.Stepping.{after-step, may-resume, never-step, step-takes, stops-waiting, taken-step}
use Rattle.qp_port_lanes.proofs.Takes.{no-take, no-take-then}
use Rattle.qp_port_lanes.proofs.turning.finish_step.Goals as goal

pub loop-init : goal.loop-init
loop-init g c = record { waits = false; busy = c.requires.knows; lane = goes-none false (g.O.Ops.lane c.args.ops.now); never = never-same _ _ refl; same = refl; takes = no-take (g.O.Ops.lane c.args.ops.now).told (g.O.Ops.lane c.args.ops.now).told refl; under_way = refl; asked = let had = c.requires.knows.asked in omega (arith, had); kept = refl }

pub resume-requires : goal.resume-requires
resume-requires g c = may-resume c.args.sys.now c.requires.sound c.args.budget c.loop.invariant.waits c.loop.home (g.O.Ops.lane c.loop.ops) c.loop.invariant.busy

pub returns-in-Some-stopped : goal.returns-in-Some-stopped
returns-in-Some-stopped g c =
    let lane = g.O.Ops.lane in
    let sys = c.args.sys.now in
    let x = c.loop.home in
    let v = lane c.loop.ops in
    let w = lane c.resume.new.ops in
    let after = after-step sys c.requires.sound c.args.budget c.loop.invariant.waits x v c.loop.invariant.busy c.loop.invariant.asked c.resume.new.ceiling c.resume.new.self w step.Point c.in-Point.ensures in
    let goes = goes-then false (lane c.args.ops.now) v w c.loop.invariant.lane (resumed sys x.ceiling c.resume.new.ceiling x.object c.resume.new.self v w step.Point c.in-Point.ensures) in
    record {
      goes = subst (λ me. HomeStops sys c.args.budget me (record x { object = c.resume.new.self; ceiling = c.resume.new.ceiling }) (lane c.stopped.new.self)) c.loop.invariant.same
          (stops-waiting sys c.requires.sound c.args.budget (record x { object = c.resume.new.self; ceiling = c.resume.new.ceiling }) w (lane c.stopped.new.self) c.in-Some-stopped.field-0 after c.in-Some-stopped.ensures.0);
      never = never-then (lane c.args.ops.now) w (lane c.stopped.new.self) (never-then (lane c.args.ops.now) v w c.loop.invariant.never (never-step sys c.requires.sound c.args.budget c.loop.invariant.waits x v c.loop.invariant.busy c.resume.new.ceiling c.resume.new.self w step.Point c.in-Point.ensures))
          (never-same w (lane c.stopped.new.self) (ap (λ u. u.told) c.in-Some-stopped.ensures.0));
      lane = finds-stop false c.in-Some-stopped.field-0 (lane c.args.ops.now) w (lane c.stopped.new.self) goes c.in-Some-stopped.ensures.0;
      same = c.loop.invariant.same;
      takes = (subst (AddsNoTake (lane c.args.ops.now).told) (sym (ap (λ u. u.told) c.in-Some-stopped.ensures.0)) (no-take-then (lane c.args.ops.now).told v.told w.told c.loop.invariant.takes (step-takes sys c.requires.sound c.args.budget c.loop.invariant.waits x v c.loop.invariant.busy c.resume.new.ceiling c.resume.new.self w step.Point c.in-Point.ensures)), c.loop.invariant.under_way);
      kept = taken-step sys c.requires.sound c.args.budget c.loop.invariant.waits x v c.loop.invariant.busy c.resume.new.ceiling c.resume.new.self w step.Point c.in-Point.ensures ∙ c.loop.invariant.kept;
    }

pub loop-preserved : goal.loop-preserved
loop-preserved g c =
    let lane = g.O.Ops.lane in
    let sys = c.args.sys.now in
    let x = c.loop.home in
    let v = lane c.loop.ops in
    let w = lane c.resume.new.ops in
    let still = sym c.in_default.ensures.0 in
    let after = after-step sys c.requires.sound c.args.budget c.loop.invariant.waits x v c.loop.invariant.busy c.loop.invariant.asked c.resume.new.ceiling c.resume.new.self w step.Point c.in-Point.ensures in
    let goes = goes-then false (lane c.args.ops.now) v w c.loop.invariant.lane (resumed sys x.ceiling c.resume.new.ceiling x.object c.resume.new.self v w step.Point c.in-Point.ensures) in
    let y : Home = record x { object = c.resume.new.self; ceiling = c.resume.new.ceiling } in
    let both = subst (λ u. (b : IsBusyHome sys c.args.budget true y u) × (y.object.taken + b.points ≤ u.asked)) still (busy-once sys c.args.budget y w after) in
    record {
      waits = true;
      busy = both.0;
      lane = subst (LaneGoes false (lane c.args.ops.now)) still (goes-then false (lane c.args.ops.now) w (asked_once w) goes (goes-once false w));
      never = subst (NeverEmpty (lane c.args.ops.now)) still (never-then (lane c.args.ops.now) w (asked_once w) (never-then (lane c.args.ops.now) v w c.loop.invariant.never (never-step sys c.requires.sound c.args.budget c.loop.invariant.waits x v c.loop.invariant.busy c.resume.new.ceiling c.resume.new.self w step.Point c.in-Point.ensures)) (never-same w (asked_once w) refl));
      same = c.loop.invariant.same;
      takes = subst (λ u. AddsNoTake (lane c.args.ops.now).told u.told) still (no-take-then (lane c.args.ops.now).told v.told w.told c.loop.invariant.takes (step-takes sys c.requires.sound c.args.budget c.loop.invariant.waits x v c.loop.invariant.busy c.resume.new.ceiling c.resume.new.self w step.Point c.in-Point.ensures));
      under_way = c.loop.invariant.under_way;
      asked = both.1;
      kept = taken-step sys c.requires.sound c.args.budget c.loop.invariant.waits x v c.loop.invariant.busy c.resume.new.ceiling c.resume.new.self w step.Point c.in-Point.ensures ∙ c.loop.invariant.kept;
    }

pub returns-in-Done : goal.returns-in-Done
returns-in-Done g c =
    let lane = g.O.Ops.lane in
    let sys = c.args.sys.now in
    let x = c.loop.home in
    let v = lane c.loop.ops in
    let w = lane c.resume.new.ops in
    record {
      goes = after-step sys c.requires.sound c.args.budget c.loop.invariant.waits x v c.loop.invariant.busy c.loop.invariant.asked c.resume.new.ceiling c.resume.new.self w step.Done c.in-Done.ensures;
      never = never-then (lane c.args.ops.now) v w c.loop.invariant.never (never-step sys c.requires.sound c.args.budget c.loop.invariant.waits x v c.loop.invariant.busy c.resume.new.ceiling c.resume.new.self w step.Done c.in-Done.ensures);
      lane = goes-then false (lane c.args.ops.now) v w c.loop.invariant.lane (resumed sys x.ceiling c.resume.new.ceiling x.object c.resume.new.self v w step.Done c.in-Done.ensures);
      same = c.loop.invariant.same;
      takes = no-take-then (lane c.args.ops.now).told v.told w.told c.loop.invariant.takes (step-takes sys c.requires.sound c.args.budget c.loop.invariant.waits x v c.loop.invariant.busy c.resume.new.ceiling c.resume.new.self w step.Done c.in-Done.ensures);
      kept = taken-step sys c.requires.sound c.args.budget c.loop.invariant.waits x v c.loop.invariant.busy c.resume.new.ceiling c.resume.new.self w step.Done c.in-Done.ensures ∙ c.loop.invariant.kept;
    }

pub returns-in-Stopped : goal.returns-in-Stopped
returns-in-Stopped g c =
    let lane = g.O.Ops.lane in
    let sys = c.args.sys.now in
    let x = c.loop.home in
    let v = lane c.loop.ops in
    let w = lane c.resume.new.ops in
    record {
      goes = subst (λ me. HomeStops sys c.args.budget me (record x { object = c.resume.new.self; ceiling = c.resume.new.ceiling }) w) c.loop.invariant.same
          (after-step sys c.requires.sound c.args.budget c.loop.invariant.waits x v c.loop.invariant.busy c.loop.invariant.asked c.resume.new.ceiling c.resume.new.self w step.Stopped c.in-Stopped.ensures);
      never = never-then (lane c.args.ops.now) v w c.loop.invariant.never (never-step sys c.requires.sound c.args.budget c.loop.invariant.waits x v c.loop.invariant.busy c.resume.new.ceiling c.resume.new.self w step.Stopped c.in-Stopped.ensures);
      lane = halts-then false (lane c.args.ops.now) v w halt.Stopped c.loop.invariant.lane (resumed sys x.ceiling c.resume.new.ceiling x.object c.resume.new.self v w step.Stopped c.in-Stopped.ensures);
      same = c.loop.invariant.same;
      takes = (no-take-then (lane c.args.ops.now).told v.told w.told c.loop.invariant.takes (step-takes sys c.requires.sound c.args.budget c.loop.invariant.waits x v c.loop.invariant.busy c.resume.new.ceiling c.resume.new.self w step.Stopped c.in-Stopped.ensures), c.loop.invariant.under_way);
      kept = taken-step sys c.requires.sound c.args.budget c.loop.invariant.waits x v c.loop.invariant.busy c.resume.new.ceiling c.resume.new.self w step.Stopped c.in-Stopped.ensures ∙ c.loop.invariant.kept;
    }

pub returns-in-Memory : goal.returns-in-Memory
returns-in-Memory g c =
    let lane = g.O.Ops.lane in
    let sys = c.args.sys.now in
    let x = c.loop.home in
    let v = lane c.loop.ops in
    let w = lane c.resume.new.ops in
    record {
      goes = tt;
      never = never-then (lane c.args.ops.now) v w c.loop.invariant.never (never-step c.args.sys.now c.requires.sound c.args.budget c.loop.invariant.waits x v c.loop.invariant.busy c.resume.new.ceiling c.resume.new.self w step.Memory c.in-Memory.ensures);
      lane = halts-then false (lane c.args.ops.now) v w halt.Memory c.loop.invariant.lane (resumed c.args.sys.now x.ceiling c.resume.new.ceiling x.object c.resume.new.self v w step.Memory c.in-Memory.ensures);
      same = c.loop.invariant.same;
      takes = (no-take-then (lane c.args.ops.now).told v.told w.told c.loop.invariant.takes (step-takes sys c.requires.sound c.args.budget c.loop.invariant.waits x v c.loop.invariant.busy c.resume.new.ceiling c.resume.new.self w step.Memory c.in-Memory.ensures), c.loop.invariant.under_way);
      kept = taken-step sys c.requires.sound c.args.budget c.loop.invariant.waits x v c.loop.invariant.busy c.resume.new.ceiling c.resume.new.self w step.Memory c.in-Memory.ensures ∙ c.loop.invariant.kept;
    }
