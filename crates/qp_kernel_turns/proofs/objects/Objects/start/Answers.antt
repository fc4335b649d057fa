use Rattle.std.proofs.Common.{◌≡◌, ◌+◌, ◌<◌, ◌≤◌, length, ap, arith, subst}
use Rattle.qp_model.specs.declared.systems.System.{System}
use Rattle.qp_kernel_turns.specs.Starting.{StartsOne}
use Rattle.qp_kernel_turns.proofs.AllStarts.{all-behind, all-started, along-none, along-then}
use Rattle.qp_dispatch.specs.declared.steps.Step.TheVariants as step
use Rattle.qp_kernel_turns.proofs.Fresh.{begun}
use Rattle.qp_kernel_turns.proofs.Lanes.{started-lane}
use Rattle.qp_kernel_turns.proofs.objects.Objects.start.Goals as goal

pub loop-place-init : goal.loop-place-init
loop-place-init g c = record {
  begun = begun c.args.sys.now c.args.self.now (g.O.Ops.lane c.args.ops.now) c.requires.sound c.requires.made c.requires.fresh;
  along = along-none c.args.self.now (g.O.Ops.lane c.args.ops.now);
  few = omega arith;
}

pub returns-in_default : goal.returns-in_default
returns-in_default g c =
    let lane = g.O.Ops.lane in
    let view = ap (λ (y : System). length y.objects) c.sys.view_is in
    let whole = c.sys.inside.0.1.1.1.0.items.ok.0 in
    let lt : c.loop-place.place < length c.args.sys.now.objects = omega (arith, view, whole, c.len-place-end.ensures, c.loop-place-test.true) in
    let goes =
    all-behind c.args.sys.now c.loop-place.place (c.loop-place.place + 1) c.args.self.now (lane c.args.ops.now) c.loop-place.self (lane c.loop-place.ops) c.start_next.new.self (lane c.start_next.new.ops) c.start_next.result
    c.in_default.not-Done lt c.loop-place.invariant.along c.start_next.ensures in
    record { goes = goes; lane = started-lane c.args.sys.now c.args.self.now c.start_next.new.self (lane c.args.ops.now) (lane c.start_next.new.ops) c.start_next.result goes }

pub loop-place-preserved : goal.loop-place-preserved
loop-place-preserved g c =
    let lane = g.O.Ops.lane in
    let view = ap (λ (y : System). length y.objects) c.sys.view_is in
    let whole = c.sys.inside.0.1.1.1.0.items.ok.0 in
    let lt : c.loop-place.place < length c.args.sys.now.objects = omega (arith, view, whole, c.len-place-end.ensures, c.loop-place-test.true) in
    let one = subst (λ a. StartsOne c.args.sys.now (c.loop-place.place + 1) c.loop-place.self c.start_next.new.self (lane c.loop-place.ops) (lane c.start_next.new.ops) a) c.in-Done.is c.start_next.ensures in
    record {
      begun = one.0;
      along = along-then c.loop-place.place 1 c.args.self.now (lane c.args.ops.now) c.loop-place.self (lane c.loop-place.ops) c.start_next.new.self (lane c.start_next.new.ops) c.loop-place.invariant.along one.1;
      few = omega (arith, lt);
    }

pub returns : goal.returns
returns g c =
    let lane = g.O.Ops.lane in
    let view = ap (λ (y : System). length y.objects) c.sys.view_is in
    let whole = c.sys.inside.0.1.1.1.0.items.ok.0 in
    let past : length c.args.sys.now.objects ≤ c.loop-place.place = omega (arith, view, whole, c.len-place-end.ensures, c.loop-place-test.false) in
    let whole_is : c.loop-place.place ≡ length c.args.sys.now.objects = omega (arith, past, c.loop-place.invariant.few) in
    let goes = all-started c.args.sys.now c.loop-place.place c.args.self.now (lane c.args.ops.now) c.loop-place.self (lane c.loop-place.ops) whole_is c.loop-place.invariant.begun c.loop-place.invariant.along in
    record { goes = goes; lane = started-lane c.args.sys.now c.args.self.now c.loop-place.self (lane c.args.ops.now) (lane c.loop-place.ops) step.Done goes }
