use Rattle.std.proofs.Common.{◌≡◌, arith, true, false, refl, subst, sym}
use Rattle.qp_chart.specs.StateTree.{has}
use Rattle.qp_dispatch.specs.declared.steps.Step.TheVariants as step
use Rattle.qp_kernel_turns.specs.Knowing.{IsRunning, KnowsAt, MayLook}
use Rattle.qp_kernel_turns.specs.Objects.{MayResumeAt, ResumesAt}
use Rattle.qp_kernel_turns.proofs.Counting.{begin-none, taken-resumes}
use Rattle.qp_kernel_turns.proofs.Lanes.{goes-none, resumed-lane, stops-memory}
use Rattle.qp_kernel_turns.proofs.Resting.{rests-stepped}
use Rattle.qp_kernel_turns.proofs.Stepping.{after-step, may-resume, order-after}
use Rattle.qp_kernel_turns.proofs.Tops.{popped-is, top-is}
use Rattle.qp_kernel_turns.proofs.turning.step.Goals as goal
use Rattle.qp_kernel_turns.specs.Turning.{terms_of}
use Rattle.qp_model.proofs.ListLemmas.{has-last}

pub resume-answer-requires : goal.resume-answer-requires
resume-answer-requires g c =
    let r = c.requires.knows in
    let sys = c.args.at.now.sys.now in
    let v = g.O.Ops.lane c.args.world.now in
    let k = subst (λ l. KnowsAt (IsRunning sys r.p) sys (terms_of c.args.at.now) c.args.kernel.now.looks l c.args.objects.now v) r.top r.knows in
    let same = top-is c.args.kernel.now.stack.items r.outer r.p c.in-Some.p r.top c.in-Some.ensures in
    subst (λ p. MayResumeAt sys c.args.objects.now.ceiling p c.args.objects.now v) (sym same) (may-resume sys c.requires.sound (terms_of c.args.at.now) c.args.kernel.now.looks r.outer r.p c.args.objects.now v k.knows k.at)

pub returns-in-Point : goal.returns-in-Point
returns-in-Point g c =
    let r = c.requires.knows in
    let sys = c.args.at.now.sys.now in
    let lane = g.O.Ops.lane in
    let v = lane c.args.world.now in
    let w = lane c.resume-answer.new.ops in
    let k = subst (λ l. KnowsAt (IsRunning sys r.p) sys (terms_of c.args.at.now) c.args.kernel.now.looks l c.args.objects.now v) r.top r.knows in
    let same = top-is c.args.kernel.now.stack.items r.outer r.p c.in-Some.p r.top c.in-Some.ensures in
    let a = after-step sys c.requires.sound (terms_of c.args.at.now) c.args.kernel.now.looks r.outer r.p c.args.objects.now v k.knows k.at c.resume-answer.new.ceiling c.resume-answer.new.self w step.Point
    (subst (λ p. ResumesAt sys c.args.objects.now.ceiling c.resume-answer.new.ceiling p c.args.objects.now c.resume-answer.new.self v w step.Point) same c.in-Point.ensures) in
    record {
      goes = record {
        looks = refl;
        knows = subst (λ l. KnowsAt (MayLook sys (terms_of c.args.at.now)) sys (terms_of c.args.at.now) c.args.kernel.now.looks l (record (c.resume-answer.new.self) { ceiling = c.resume-answer.new.ceiling }) w) (sym r.top) a.0;
        onward = a.1;
        row = a.2;
      };
      order = λ acts h. order-after sys c.requires.sound (terms_of c.args.at.now) c.args.kernel.now.looks r.outer r.p c.args.objects.now v k.knows k.at acts h c.resume-answer.new.ceiling c.resume-answer.new.self w step.Point
          (subst (λ p. ResumesAt sys c.args.objects.now.ceiling c.resume-answer.new.ceiling p c.args.objects.now c.resume-answer.new.self v w step.Point) same c.in-Point.ensures);
      rests = tt;
      lane = resumed-lane sys c.args.objects.now.ceiling c.resume-answer.new.ceiling c.in-Some.p c.args.objects.now c.resume-answer.new.self v w step.Point c.in-Point.ensures;
      begun = record { steps = omega arith; taken = taken-resumes sys c.args.objects.now.ceiling c.resume-answer.new.ceiling c.in-Some.p c.args.objects.now c.resume-answer.new.self v w step.Point c.in-Point.ensures };
      looks = refl;
      rows = tt;
    }

pub returns-in-Done : goal.returns-in-Done
returns-in-Done g c =
    let r = c.requires.knows in
    let sys = c.args.at.now.sys.now in
    let lane = g.O.Ops.lane in
    let v = lane c.args.world.now in
    let w = lane c.resume-answer.new.ops in
    let k = subst (λ l. KnowsAt (IsRunning sys r.p) sys (terms_of c.args.at.now) c.args.kernel.now.looks l c.args.objects.now v) r.top r.knows in
    let same = top-is c.args.kernel.now.stack.items r.outer r.p c.in-Some.p r.top c.in-Some.ensures in
    let a = after-step sys c.requires.sound (terms_of c.args.at.now) c.args.kernel.now.looks r.outer r.p c.args.objects.now v k.knows k.at c.resume-answer.new.ceiling c.resume-answer.new.self w step.Done
    (subst (λ p. ResumesAt sys c.args.objects.now.ceiling c.resume-answer.new.ceiling p c.args.objects.now c.resume-answer.new.self v w step.Done) same c.in-Done.ensures) in
    record {
      goes = record {
        looks = refl;
        knows = subst (λ l. KnowsAt (MayLook sys (terms_of c.args.at.now)) sys (terms_of c.args.at.now) c.args.kernel.now.looks l (record (c.resume-answer.new.self) { ceiling = c.resume-answer.new.ceiling }) w) (sym (popped-is c.args.kernel.now.stack.items r.outer c.pop.new.self.items r.p c.pop.result r.top c.pop.ensures.items c.pop.ensures.variant.1)) a.0;
        onward = a.1;
        row = a.2;
      };
      order = λ acts h. order-after sys c.requires.sound (terms_of c.args.at.now) c.args.kernel.now.looks r.outer r.p c.args.objects.now v k.knows k.at acts h c.resume-answer.new.ceiling c.resume-answer.new.self w step.Done
          (subst (λ p. ResumesAt sys c.args.objects.now.ceiling c.resume-answer.new.ceiling p c.args.objects.now c.resume-answer.new.self v w step.Done) same c.in-Done.ensures);
      rests = tt;
      lane = resumed-lane sys c.args.objects.now.ceiling c.resume-answer.new.ceiling c.in-Some.p c.args.objects.now c.resume-answer.new.self v w step.Done c.in-Done.ensures;
      begun = record { steps = omega arith; taken = taken-resumes sys c.args.objects.now.ceiling c.resume-answer.new.ceiling c.in-Some.p c.args.objects.now c.resume-answer.new.self v w step.Done c.in-Done.ensures };
      looks = refl;
      rows = tt;
    }

pub returns-in-Stopped : goal.returns-in-Stopped
returns-in-Stopped g c =
    let r = c.requires.knows in
    let sys = c.args.at.now.sys.now in
    let lane = g.O.Ops.lane in
    let v = lane c.args.world.now in
    let w = lane c.resume-answer.new.ops in
    let k = subst (λ l. KnowsAt (IsRunning sys r.p) sys (terms_of c.args.at.now) c.args.kernel.now.looks l c.args.objects.now v) r.top r.knows in
    let same = top-is c.args.kernel.now.stack.items r.outer r.p c.in-Some.p r.top c.in-Some.ensures in
    let put = subst (λ p. ResumesAt sys c.args.objects.now.ceiling c.resume-answer.new.ceiling p c.args.objects.now c.resume-answer.new.self v w step.Stopped) same c.in-Stopped.ensures in
    let a = after-step sys c.requires.sound (terms_of c.args.at.now) c.args.kernel.now.looks r.outer r.p c.args.objects.now v k.knows k.at c.resume-answer.new.ceiling c.resume-answer.new.self w step.Stopped put in
    record {
      goes = a.0;
      order = λ acts h. order-after sys c.requires.sound (terms_of c.args.at.now) c.args.kernel.now.looks r.outer r.p c.args.objects.now v k.knows k.at acts h c.resume-answer.new.ceiling c.resume-answer.new.self w step.Stopped put;
      rests =
          rests-stepped sys c.requires.sound (terms_of c.args.at.now) c.args.kernel.now.looks c.args.kernel.now.stack.items c.args.objects.now v r.knows.knows _ r.knows.at.stack w c.resume-answer.new.self c.resume-answer.new.ceiling r.p put.later
          a.1.records (subst (λ l. has l r.p ≡ true) (sym r.top) (has-last r.outer r.p)) put.put.slots a.1.told a.1.apart;
      lane = resumed-lane sys c.args.objects.now.ceiling c.resume-answer.new.ceiling c.in-Some.p c.args.objects.now c.resume-answer.new.self v w step.Stopped c.in-Stopped.ensures;
      begun = record { steps = omega arith; taken = taken-resumes sys c.args.objects.now.ceiling c.resume-answer.new.ceiling c.in-Some.p c.args.objects.now c.resume-answer.new.self v w step.Stopped c.in-Stopped.ensures };
      looks = refl;
      rows = a.2;
    }

pub returns-in-Memory : goal.returns-in-Memory
returns-in-Memory g c =
    let sys = c.args.at.now.sys.now in
    let lane = g.O.Ops.lane in
    let v = lane c.args.world.now in
    let w = lane c.resume-answer.new.ops in
    record {
      goes = tt;
      order = λ acts h. tt;
      rests = tt;
      lane = resumed-lane sys c.args.objects.now.ceiling c.resume-answer.new.ceiling c.in-Some.p c.args.objects.now c.resume-answer.new.self v w step.Memory c.in-Memory.ensures;
      begun = record { steps = omega arith; taken = taken-resumes sys c.args.objects.now.ceiling c.resume-answer.new.ceiling c.in-Some.p c.args.objects.now c.resume-answer.new.self v w step.Memory c.in-Memory.ensures };
      looks = refl;
      rows = tt;
    }

pub returns-in_default : goal.returns-in_default
returns-in_default g c =
    let lane = g.O.Ops.lane in
    let v = lane c.args.world.now in
    record {
      goes = tt;
      order = λ acts h. tt;
      rests = tt;
      lane = stops-memory false v v (lane c.stop.new.self) (goes-none false v) c.stop.ensures;
      begun = begin-none c.args.kernel.now c.args.objects.now;
      looks = refl;
      rows = tt;
    }
