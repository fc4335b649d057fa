use denote.Param.Send.{sendable}
use Rattle.std.proofs.Common.{length, map, ap, arith, subst}
use Rattle.std.specs.Prelude.{IfOk}
use Rattle.qp_model.specs.declared.systems.System.{System}
use Rattle.qp_model.specs.Kernels.{port}
use Rattle.qp_port_law.specs.Sealed.{SealsLanes}
use Rattle.qp_port.specs.Rows.{AreNewLanes}
use Rattle.qp_shared.specs.Lane.{lane_view}
use Rattle.qp_shared.specs.WasSealed.{WasSealedFor}
use Rattle.qp_shared.specs.Starting.{serves_one}
use Rattle.qp_shared.proofs.CrossingLemmas.{shared-lane-send}
use Rattle.qp_port_runs.proofs.Lanes.{all-lanes}
use Rattle.qp_port_runs.proofs.PortLanes.{new-port_lanes, same-as}
use Rattle.qp_port_runs.proofs.PortSealing.{port-rests, port-run}
use Rattle.qp_port_runs.proofs.port.run_port.Goals as goal

pub run_lanes_of_port-requires-send-O : goal.run_lanes_of_port-requires-send-O
run_lanes_of_port-requires-send-O g c κs within = search (sendable, shared-lane-send) depth 20

pub run_lanes_of_port-requires-clause-lanes : goal.run_lanes_of_port-requires-clause-lanes
run_lanes_of_port-requires-clause-lanes g c κs within =
    let first = c.in_ok-lanes.ensures in
    let system = c.in_ok-shared.ensures.system in
    let objects = ap (λ (s : System). length s.objects) system in
    let more = ap (λ (s : System). length s.objects) c.sys.view_is in
    let sources = ap length c.stim.view_is in
    let a = c.len.ensures in
    let b = c.len-2.ensures in
    let few_objects = c.requires.sound.few_objects in
    let few = c.requires.fit.few in
    subst (λ s. AreNewLanes s c.args.stim.now (map lane_view c.in_ok-lanes.lanes.items)) system
    (new-port_lanes c.in_ok-shared.shared _ c.args.stim.now (map lane_view c.in_ok-lanes.lanes.items) (omega (arith, objects, more, sources, a, b, few_objects, few)) first)

pub seal-requires : goal.seal-requires
seal-requires g c =
    let more = ap (λ (s : System). length s.objects) c.sys.view_is in
    let sources = ap length c.stim.view_is in
    let a = c.len.ensures in
    let b = c.len-2.ensures in
    let few_objects = c.requires.sound.few_objects in
    let few = c.requires.fit.few in
    record {
      all = all-lanes c.in_ok-shared.shared _ (serves_one c.in_ok-shared.shared.sys.now) (map lane_view c.in_ok-lanes.lanes.items) (map lane_view c.in_ok-lanes-2.field-0.lanes.items)
          (omega (arith, more, sources, a, b, few_objects, few)) c.in_ok-lanes.ensures (same-as _ _ c.in_ok-lanes-2.ensures.lanes);
      cause = c.in_ok-lanes-2.ensures.cause;
      fed = c.in_ok-lanes-2.ensures.fed;
    }

pub returns-clause-run : goal.returns-clause-run
returns-clause-run g c =
    let run = c.in_ok-lanes-2.field-0 in
    let vs = map lane_view run.lanes.items in
    port-run c.args.sys.now c.args.stim.now c.args.budget run.done run.rests.items vs c.requires.sound c.in_ok-lanes-2.ensures.run c.seal.result
    (subst (λ s. IfOk c.seal.result (λ x. SealsLanes s port c.args.budget vs x.sealed.journal)) c.in_ok-shared.ensures.system c.seal.ensures.seals) c.seal.ensures.quiet

pub returns-clause-rests : goal.returns-clause-rests
returns-clause-rests g c =
    let run = c.in_ok-lanes-2.field-0 in
    let vs = map lane_view run.lanes.items in
    port-rests c.args.sys.now c.args.stim.now c.args.budget run.done run.rests.items vs c.requires.sound c.in_ok-lanes-2.ensures.run c.seal.result
    (subst (λ s. IfOk c.seal.result (λ x. SealsLanes s port c.args.budget vs x.sealed.journal)) c.in_ok-shared.ensures.system c.seal.ensures.seals) c.seal.ensures.quiet c.seal.ensures.rests

pub returns-clause-sealed : goal.returns-clause-sealed
returns-clause-sealed g c = subst (λ s. IfOk c.seal.result (λ x. WasSealedFor s x.sealed.journal)) c.in_ok-shared.ensures.system c.seal.ensures.sealed
