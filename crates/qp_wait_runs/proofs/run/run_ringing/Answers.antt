use denote.Param.Send.{sendable}
use Rattle.std.proofs.Common.{◌≡◌, ◌∙◌, false, map, sym, subst}
use Rattle.std.specs.List.{AllByRecursion}
use Rattle.qp_port_lanes.specs.Answers.{IsFed}
use Rattle.qp_port_phases.specs.Stopping.{AnyStopped}
use Rattle.qp_port_runs.specs.Handed.{HasRun}
use Rattle.qp_port_runs.specs.Handed.{AreNewLanes}
use Rattle.qp_port_lanes.specs.Workers.{AreSameLanes}
use Rattle.qp_port_runs.proofs.Worlds.{ok-one, ok-three, ok-two}
use Rattle.qp_port_runs.specs.Handed.{lane_view}
use Rattle.qp_wait.specs.Handed.{bell_view}
use Rattle.qp_wait.proofs.Handed.{bell-lane-send}
use Rattle.qp_wait_runs.proofs.Lanes.{all-fresh, all-of}
use Rattle.qp_wait_runs.proofs.run.run_ringing.Goals as goal

pub all_ringing-requires-clause-systems : goal.all_ringing-requires-clause-systems
all_ringing-requires-clause-systems g c = all-of lane_view c.args.at.now.sys.now c.args.at.now.stim.now c.args.lanes.items c.requires.lanes

pub all_ringing-requires-clause-fresh : goal.all_ringing-requires-clause-fresh
all_ringing-requires-clause-fresh g c = all-fresh lane_view c.args.at.now.sys.now c.args.at.now.stim.now c.args.lanes.items c.requires.lanes

pub run_lanes_of-requires-send-O : goal.run_lanes_of-requires-send-O
run_lanes_of-requires-send-O g c κs within = search (sendable, bell-lane-send) depth 20

pub run_lanes_of-requires-clause-lanes : goal.run_lanes_of-requires-clause-lanes
run_lanes_of-requires-clause-lanes g c κs within = subst (AreNewLanes c.args.at.now.sys.now c.args.at.now.stim.now) (sym c.in_ok-lanes.ensures.lanes) c.requires.lanes

pub returns-clause-lanes : goal.returns-clause-lanes
returns-clause-lanes g c =
    let run = c.in_ok-run.run' in
    ok-one (λ x. map lane_view x.lanes.items ≡ map bell_view run.lanes.items) (λ x. AreSameLanes (map lane_view c.args.lanes.items) (map lane_view x.lanes.items))
    (λ x h. subst (λ vs. AreSameLanes vs (map lane_view x.lanes.items)) c.in_ok-lanes.ensures.lanes
    (subst (AreSameLanes (map bell_view c.in_ok-lanes.lanes.items)) (sym h) c.in_ok-run.ensures.lanes))
    c.run_done.result c.run_done.ensures.lanes

pub returns-clause-run : goal.returns-clause-run
returns-clause-run g c =
    let run = c.in_ok-run.run' in
    let at = c.args.at.now in
    ok-three (λ x. map lane_view x.lanes.items ≡ map bell_view run.lanes.items) (λ x. x.rests.items ≡ run.rests.items) (λ x. x.done ≡ run.done)
    (λ x. HasRun at.sys.now at.stim.now at.budget x.done x.rests.items (map lane_view x.lanes.items))
    (λ x lanes rests done. subst (λ b. HasRun at.sys.now at.stim.now at.budget b x.rests.items (map lane_view x.lanes.items)) (sym done)
    (subst (λ rs. HasRun at.sys.now at.stim.now at.budget run.done rs (map lane_view x.lanes.items)) (sym rests)
    (subst (HasRun at.sys.now at.stim.now at.budget run.done run.rests.items) (sym lanes) c.in_ok-run.ensures.run)))
    c.run_done.result c.run_done.ensures.lanes c.run_done.ensures.rests c.run_done.ensures.done

pub returns-clause-cause : goal.returns-clause-cause
returns-clause-cause g c =
    let run = c.in_ok-run.run' in
    ok-two (λ x. map lane_view x.lanes.items ≡ map bell_view run.lanes.items) (λ x. x.done ≡ run.done)
    (λ x. x.done ≡ false → AnyStopped (map lane_view x.lanes.items))
    (λ x lanes done not. subst AnyStopped (sym lanes) (c.in_ok-run.ensures.cause (sym done ∙ not)))
    c.run_done.result c.run_done.ensures.lanes c.run_done.ensures.done

pub returns-clause-fed : goal.returns-clause-fed
returns-clause-fed g c =
    let run = c.in_ok-run.run' in
    ok-one (λ x. map lane_view x.lanes.items ≡ map bell_view run.lanes.items) (λ x. AllByRecursion IsFed (map lane_view x.lanes.items))
    (λ x lanes. subst (AllByRecursion IsFed) (sym lanes) c.in_ok-run.ensures.fed)
    c.run_done.result c.run_done.ensures.lanes
