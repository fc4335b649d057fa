use denote.Param.Send.{sendable}
use Rattle.std.proofs.Common.{length, map, ap, arith, subst}
use Rattle.std.specs.Prelude.{IfOk}
use Rattle.qp_model.specs.Kernels.{qk}
use Rattle.qp_port_law.specs.Sealed.{SealsLanes}
use Rattle.qp_port_qk.specs.Rows.{AreNewQkLanes}
use Rattle.qp_shared.specs.Lane.{lane_view}
use Rattle.qp_shared.specs.WasSealed.{WasSealedFor}
use Rattle.qp_shared.specs.Starting.{serves_all}
use Rattle.qp_shared.proofs.CrossingLemmas.{shared-lane-send}
use Rattle.qp_port_runs.proofs.Lanes.{all-lanes, new-lanes}
use Rattle.qp_port_runs.proofs.QkSealing.{qk-rests, qk-run}
use Rattle.qp_port_runs.proofs.qk.run_qk.Goals as goal

pub run_alone-requires-send-O : goal.run_alone-requires-send-O
run_alone-requires-send-O g c κs within = search (sendable, shared-lane-send) depth 20

pub run_alone-requires-clause-lanes : goal.run_alone-requires-clause-lanes
run_alone-requires-clause-lanes g c κs within =
    let sources = ap length c.stim.view_is in
    let a = c.len-count.ensures in
    let few = c.requires.fit.few in
    subst (λ s. AreNewQkLanes s c.args.stim.now (map lane_view c.in_ok-lanes.lanes.items)) c.in_ok-shared.ensures.system
    (new-lanes c.in_ok-shared.shared _ c.args.stim.now (map lane_view c.in_ok-lanes.lanes.items) (omega (arith, sources, a, few)) c.in_ok-lanes.ensures)

pub seal-requires : goal.seal-requires
seal-requires g c =
    let sources = ap length c.stim.view_is in
    let a = c.len-count.ensures in
    let few = c.requires.fit.few in
    record {
      all = all-lanes c.in_ok-shared.shared _ (serves_all c.in_ok-shared.shared.sys.now) (map lane_view c.in_ok-lanes.lanes.items) (map lane_view c.in_ok-lanes-2.field-0.lanes.items)
          (omega (arith, sources, a, few)) c.in_ok-lanes.ensures c.in_ok-lanes-2.ensures.lanes;
      cause = c.in_ok-lanes-2.ensures.cause;
      fed = c.in_ok-lanes-2.ensures.fed;
    }

pub returns-clause-run : goal.returns-clause-run
returns-clause-run g c =
    let run = c.in_ok-lanes-2.field-0 in
    let vs = map lane_view run.lanes.items in
    qk-run c.sealed_qk_runs_are_lawful.ensures c.args.sys.now c.args.stim.now c.args.budget run.done run.rests.items vs c.requires.sound c.in_ok-lanes-2.ensures.run c.seal.result
    (subst (λ s. IfOk c.seal.result (λ x. SealsLanes s qk c.args.budget vs x.sealed.journal)) c.in_ok-shared.ensures.system c.seal.ensures.seals) c.seal.ensures.quiet

pub returns-clause-rests : goal.returns-clause-rests
returns-clause-rests g c =
    let run = c.in_ok-lanes-2.field-0 in
    let vs = map lane_view run.lanes.items in
    qk-rests c.sealed_qk_runs_are_lawful.ensures c.args.sys.now c.args.stim.now c.args.budget run.done run.rests.items vs c.requires.sound c.in_ok-lanes-2.ensures.run c.seal.result
    (subst (λ s. IfOk c.seal.result (λ x. SealsLanes s qk c.args.budget vs x.sealed.journal)) c.in_ok-shared.ensures.system c.seal.ensures.seals) c.seal.ensures.quiet c.seal.ensures.rests

pub returns-clause-sealed : goal.returns-clause-sealed
returns-clause-sealed g c = subst (λ s. IfOk c.seal.result (λ x. WasSealedFor s x.sealed.journal)) c.in_ok-shared.ensures.system c.seal.ensures.sealed
