use Rattle.qp_dispatch.specs.Lasts.{moment_of_work}
use Rattle.qp_dispatch.specs.Runs.{object_setting, tasks_in}
use Rattle.qp_dispatch.proofs.RunLemmas.{may-on, part-asserts, part-cut, part-on, part-point, runs-none, runs-over, runs-past}
use Rattle.qp_dispatch.proofs.runs.run.Goals as goal

pub loop-code-init : goal.loop-code-init
loop-code-init g c = record {
  runs =
      runs-none c.args.stops (object_setting c.args.home.now) (moment_of_work c.args.work.now) c.args.ceiling.now c.args.lasting.now c.args.left.now.under (tasks_in (object_setting c.args.home.now) c.args.left.now) (g.O.Ops.lane c.args.ops.now)
      c.requires.may.publishing;
}

pub part-requires : goal.part-requires
part-requires g c =
    let lane = g.O.Ops.lane in
    may-on c.args.stops (object_setting c.args.home.now) (moment_of_work c.args.work.now) c.args.work.now.entry c.args.ceiling.now c.loop-code.ceiling c.args.lasting.now c.args.left.now.under
    (tasks_in (object_setting c.args.home.now) c.args.left.now) c.loop-code.lasting c.loop-code.left.under (tasks_in (object_setting c.args.home.now) c.loop-code.left) (lane c.args.ops.now) (lane c.loop-code.ops) c.requires.may
    c.loop-code.invariant.runs

pub returns-in-None : goal.returns-in-None
returns-in-None g c =
    let lane = g.O.Ops.lane in
    runs-over c.args.stops (object_setting c.args.home.now) (moment_of_work c.args.work.now) c.args.ceiling.now c.args.lasting.now c.args.left.now.under (tasks_in (object_setting c.args.home.now) c.args.left.now) (lane c.args.ops.now)
    c.loop-code.ceiling c.part.new.ceiling c.loop-code.lasting c.part.new.lasting c.loop-code.left.under c.part.new.left.under (tasks_in (object_setting c.args.home.now) c.loop-code.left) (lane c.loop-code.ops)
    (lane c.part.new.ops) c.loop-code.invariant.runs c.in-None.ensures

pub returns-in-Some-Asserted : goal.returns-in-Some-Asserted
returns-in-Some-Asserted g c =
    let lane = g.O.Ops.lane in
    let d = c.in-Some-Asserted.ensures in
    part-asserts c.args.stops (object_setting c.args.home.now) (moment_of_work c.args.work.now) c.args.ceiling.now c.args.lasting.now c.args.left.now.under (tasks_in (object_setting c.args.home.now) c.args.left.now) (lane c.args.ops.now)
    c.loop-code.ceiling c.part.new.ceiling c.loop-code.lasting c.part.new.lasting c.loop-code.left.under c.part.new.left.under d.pre (tasks_in (object_setting c.args.home.now) c.loop-code.left)
    (tasks_in (object_setting c.args.home.now) c.part.new.left) (lane c.loop-code.ops) (lane c.part.new.ops) c.loop-code.invariant.runs d.split c.in-Some-Asserted.code c.in-Some-Asserted.field-0 d.does c.in-Some-Asserted.field-0-is

pub returns-in-Some-Cut : goal.returns-in-Some-Cut
returns-in-Some-Cut g c =
    let lane = g.O.Ops.lane in
    let d = c.in-Some-Cut.ensures in
    part-cut c.args.stops (object_setting c.args.home.now) (moment_of_work c.args.work.now) c.args.ceiling.now c.args.lasting.now c.args.left.now.under (tasks_in (object_setting c.args.home.now) c.args.left.now) (lane c.args.ops.now)
    c.loop-code.ceiling c.part.new.ceiling c.loop-code.lasting c.part.new.lasting c.loop-code.left.under c.part.new.left.under d.pre (tasks_in (object_setting c.args.home.now) c.loop-code.left)
    (tasks_in (object_setting c.args.home.now) c.part.new.left) (lane c.loop-code.ops) (lane c.part.new.ops) c.loop-code.invariant.runs d.split c.in-Some-Cut.fault c.in-Some-Cut.field-0 c.requires.can.able c.requires.may.of c.requires.can.few d.does c.in-Some-Cut.field-0-is

pub loop-code-smaller-in-Some-On : goal.loop-code-smaller-in-Some-On
loop-code-smaller-in-Some-On g c = let d = c.in-Some-On.ensures in d.less

pub loop-code-preserved-in-Some-On : goal.loop-code-preserved-in-Some-On
loop-code-preserved-in-Some-On g c =
    let lane = g.O.Ops.lane in
    let runs =
    let d = c.in-Some-On.ensures in
    part-on c.args.stops (object_setting c.args.home.now) (moment_of_work c.args.work.now) c.args.ceiling.now c.args.lasting.now c.args.left.now.under (tasks_in (object_setting c.args.home.now) c.args.left.now) (lane c.args.ops.now)
    c.loop-code.ceiling c.part.new.ceiling c.loop-code.lasting c.part.new.lasting c.loop-code.left.under c.part.new.left.under d.pre (tasks_in (object_setting c.args.home.now) c.loop-code.left)
    (tasks_in (object_setting c.args.home.now) c.part.new.left) (lane c.loop-code.ops) (lane c.part.new.ops) c.loop-code.invariant.runs d.split c.in-Some-On.field-0 d.does c.in-Some-On.field-0-is in
    record { runs = runs }

pub returns-then-stops : goal.returns-then-stops
returns-then-stops g c =
    let lane = g.O.Ops.lane in
    let runs =
    let d = c.in-Some-Point.ensures in
    part-point c.args.stops (object_setting c.args.home.now) (moment_of_work c.args.work.now) c.args.ceiling.now c.args.lasting.now c.args.left.now.under (tasks_in (object_setting c.args.home.now) c.args.left.now) (lane c.args.ops.now)
    c.loop-code.ceiling c.part.new.ceiling c.loop-code.lasting c.part.new.lasting c.loop-code.left.under c.part.new.left.under d.pre (tasks_in (object_setting c.args.home.now) c.loop-code.left)
    (tasks_in (object_setting c.args.home.now) c.part.new.left) (lane c.loop-code.ops) (lane c.part.new.ops) c.loop-code.invariant.runs d.split c.in-Some-Point.field-0 d.does c.in-Some-Point.field-0-is in
    (c.if-stops.true, runs)

pub loop-code-smaller : goal.loop-code-smaller
loop-code-smaller g c = let d = c.in-Some-Point.ensures in d.less

pub loop-code-preserved : goal.loop-code-preserved
loop-code-preserved g c =
    let lane = g.O.Ops.lane in
    let runs =
    let d = c.in-Some-Point.ensures in
    part-point c.args.stops (object_setting c.args.home.now) (moment_of_work c.args.work.now) c.args.ceiling.now c.args.lasting.now c.args.left.now.under (tasks_in (object_setting c.args.home.now) c.args.left.now) (lane c.args.ops.now)
    c.loop-code.ceiling c.part.new.ceiling c.loop-code.lasting c.part.new.lasting c.loop-code.left.under c.part.new.left.under d.pre (tasks_in (object_setting c.args.home.now) c.loop-code.left)
    (tasks_in (object_setting c.args.home.now) c.part.new.left) (lane c.loop-code.ops) (lane c.part.new.ops) c.loop-code.invariant.runs d.split c.in-Some-Point.field-0 d.does c.in-Some-Point.field-0-is in
    record {
      runs =
          runs-past c.args.stops (object_setting c.args.home.now) (moment_of_work c.args.work.now) c.args.ceiling.now c.args.lasting.now c.args.left.now.under (tasks_in (object_setting c.args.home.now) c.args.left.now) (lane c.args.ops.now)
          c.part.new.ceiling c.part.new.lasting c.part.new.left.under (tasks_in (object_setting c.args.home.now) c.part.new.left) (lane c.part.new.ops) c.if-stops.false runs;
    }
