use Rattle.std.proofs.Common.{None, inl, refl}
use Rattle.qp_model.specs.Pieces.{records_in}
use Rattle.qp_model.proofs.AbleLemmas.{start-able}
use Rattle.qp_chart_compiled.specs.Compiled.{tasks_left_in}
use Rattle.qp_dispatch.specs.declared.work.Work.{Work}
use Rattle.qp_dispatch.specs.Runs.{object_setting}
use Rattle.qp_dispatch.proofs.StartLemmas.{start-asserted, start-begins, start-done, start-halted, start-moment, start-stand}
use Rattle.qp_dispatch.proofs.starts.start_on.Goals as goal

pub run-requires-clause-can : goal.run-requires-clause-can
run-requires-clause-can g c =
    record {
      able = rw c.start-leaf.ensures.tasks (start-able c.args.home.now.sys.now c.args.home.now.chart.now c.requires.ready.able);
      few = c.requires.few;
    }

pub returns-in-Over : goal.returns-in-Over
returns-in-Over g c =
    let lane = g.O.Ops.lane in
    let work : Work = record { ev = record { sig = 0; pars = c.new-pars.result }; entry = None } in
    let ts = tasks_left_in c.args.home.now.chart.now c.args.home.now.compiled.now c.start-leaf.result.0 in
    start-done (object_setting c.args.home.now) c.args.ceiling.now c.run.new.ceiling c.args.lasting.now c.run.new.lasting work ts c.start-leaf.result.1 (lane c.args.ops.now) (lane c.run.new.ops)
    (start-moment work c.new-pars.result.items c.new-pars.ensures refl refl) c.start-leaf.ensures.tasks c.requires.lane c.requires.stand
    c.start-leaf.ensures.leaf c.requires.few c.in-Over.ensures

pub returns-in-Asserted : goal.returns-in-Asserted
returns-in-Asserted g c =
    let lane = g.O.Ops.lane in
    let work : Work = record { ev = record { sig = 0; pars = c.new-pars.result }; entry = None } in
    let ts = tasks_left_in c.args.home.now.chart.now c.args.home.now.compiled.now c.start-leaf.result.0 in
    inl
    (start-asserted (object_setting c.args.home.now) c.args.ceiling.now c.run.new.ceiling c.args.lasting.now c.run.new.lasting work ts c.start-leaf.result.1 (lane c.args.ops.now) (lane c.run.new.ops)
    (start-moment work c.new-pars.result.items c.new-pars.ensures refl refl) c.start-leaf.ensures.tasks c.requires.lane c.requires.stand
    c.run.new.left.under c.in-Asserted.code (lane c.stop.new.self) c.in-Asserted.ensures c.stop.ensures)

pub returns-in-Cut : goal.returns-in-Cut
returns-in-Cut g c =
    let lane = g.O.Ops.lane in
    let work : Work = record { ev = record { sig = 0; pars = c.new-pars.result }; entry = None } in
    let ts = tasks_left_in c.args.home.now.chart.now c.args.home.now.compiled.now c.start-leaf.result.0 in
    let r = c.in-Cut.ensures in
    start-halted (object_setting c.args.home.now) c.run.new.ceiling c.args.lasting.now c.run.new.lasting (records_in r.0.ps) (lane c.args.ops.now) (lane c.run.new.ops) (lane c.give_up.new.ops) c.give_up.result
    r.0.grows
    (start-begins (object_setting c.args.home.now) c.args.ceiling.now c.run.new.ceiling c.args.lasting.now c.run.new.lasting work ts c.start-leaf.result.1 (lane c.args.ops.now) (lane c.run.new.ops)
    (start-moment work c.new-pars.result.items c.new-pars.ensures refl refl) c.start-leaf.ensures.tasks c.requires.lane c.requires.stand
    c.run.new.left.under r.0)
    (start-stand (object_setting c.args.home.now) c.args.ceiling.now c.run.new.ceiling c.args.lasting.now c.run.new.lasting work ts c.start-leaf.result.1 (lane c.args.ops.now) (lane c.run.new.ops)
    (start-moment work c.new-pars.result.items c.new-pars.ensures refl refl) c.start-leaf.ensures.tasks c.requires.lane c.requires.stand
    c.run.new.left.under r.0)
    c.give_up.ensures
