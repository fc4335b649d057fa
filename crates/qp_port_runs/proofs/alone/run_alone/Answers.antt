use Rattle.std.proofs.Common.{◌≡◌, false, map, sym, subst, ◌∙◌}
use Rattle.std.specs.List.{AllByRecursion}
use Rattle.qp_port_lanes.specs.Answers.{IsFed}
use Rattle.qp_port_phases.specs.Stopping.{AnyStopped}
use Rattle.qp_port_qk.specs.Ends.{HasQkRun}
use Rattle.qp_port_qk.specs.Rows.{AreNewQkLanes}
use Rattle.qp_port_lanes.specs.Workers.{AreSameLanes}
use Rattle.qp_port_runs.proofs.Worlds.{ok-one, ok-three, ok-two, through}
use Rattle.qp_port_runs.proofs.alone.run_alone.Goals as goal

pub run_lanes_of_qk-requires-clause-lanes : goal.run_lanes_of_qk-requires-clause-lanes
run_lanes_of_qk-requires-clause-lanes g c κs within =
    subst (AreNewQkLanes c.args.sys.now c.args.stim.now) (through (λ w. w.lane) g.O.Ops.lane c.in-Ok.worlds.items c.args.lanes.items c.in-Ok.ensures) c.requires.lanes

pub returns-clause-lanes : goal.returns-clause-lanes
returns-clause-lanes g c =
    let run = c.in_ok-run.run' in
    ok-one (λ x. x.lanes.items ≡ map (λ w. w.lane) run.lanes.items) (λ x. AreSameLanes (map g.O.Ops.lane c.args.lanes.items) (map g.O.Ops.lane x.lanes.items))
    (λ x h. subst (λ vs. AreSameLanes vs (map g.O.Ops.lane x.lanes.items)) (sym (through (λ w. w.lane) g.O.Ops.lane c.in-Ok.worlds.items c.args.lanes.items c.in-Ok.ensures))
    (subst (AreSameLanes (map (λ s. g.O.Ops.lane s.lane) c.in-Ok.worlds.items)) (sym (through (λ w. w.lane) g.O.Ops.lane run.lanes.items x.lanes.items (sym h))) c.in_ok-run.ensures.lanes))
    c.run_done.result c.run_done.ensures.lanes

pub returns-clause-run : goal.returns-clause-run
returns-clause-run g c =
    let run = c.in_ok-run.run' in
    ok-three (λ x. x.lanes.items ≡ map (λ w. w.lane) run.lanes.items) (λ x. x.rests.items ≡ run.rests.items) (λ x. x.done ≡ run.done)
    (λ x. HasQkRun c.args.sys.now c.args.stim.now c.args.budget x.done x.rests.items (map g.O.Ops.lane x.lanes.items))
    (λ x lanes rests done. subst (λ b. HasQkRun c.args.sys.now c.args.stim.now c.args.budget b x.rests.items (map g.O.Ops.lane x.lanes.items)) (sym done)
    (subst (λ rs. HasQkRun c.args.sys.now c.args.stim.now c.args.budget run.done rs (map g.O.Ops.lane x.lanes.items)) (sym rests)
    (subst (HasQkRun c.args.sys.now c.args.stim.now c.args.budget run.done run.rests.items) (sym (through (λ w. w.lane) g.O.Ops.lane run.lanes.items x.lanes.items (sym lanes))) c.in_ok-run.ensures.run)))
    c.run_done.result c.run_done.ensures.lanes c.run_done.ensures.rests c.run_done.ensures.done

pub returns-clause-cause : goal.returns-clause-cause
returns-clause-cause g c =
    let run = c.in_ok-run.run' in
    ok-two (λ x. x.lanes.items ≡ map (λ w. w.lane) run.lanes.items) (λ x. x.done ≡ run.done)
    (λ x. x.done ≡ false → AnyStopped (map g.O.Ops.lane x.lanes.items))
    (λ x lanes done not. subst AnyStopped (sym (through (λ w. w.lane) g.O.Ops.lane run.lanes.items x.lanes.items (sym lanes))) (c.in_ok-run.ensures.cause (sym done ∙ not)))
    c.run_done.result c.run_done.ensures.lanes c.run_done.ensures.done

pub returns-clause-fed : goal.returns-clause-fed
returns-clause-fed g c =
    let run = c.in_ok-run.run' in
    ok-one (λ x. x.lanes.items ≡ map (λ w. w.lane) run.lanes.items) (λ x. AllByRecursion IsFed (map g.O.Ops.lane x.lanes.items))
    (λ x lanes. subst (AllByRecursion IsFed) (sym (through (λ w. w.lane) g.O.Ops.lane run.lanes.items x.lanes.items (sym lanes))) c.in_ok-run.ensures.fed)
    c.run_done.result c.run_done.ensures.lanes
