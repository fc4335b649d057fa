use Rattle.std.proofs.Common.{◌∙◌, Err, Ok, ap, arith, false, refl, subst, sym, true}
use Rattle.std.proofs.lemmas.Result.{err_from_is_err_and}
use Rattle.qp_kernel_turns.specs.Halting.{asked_once}
use Rattle.qp_kernel_turns.specs.Lanes.{LaneGoes}
use Rattle.qp_kernel_turns.proofs.Lanes.{goes-none, goes-once, goes-then, halts-then, stops-memory}
use Rattle.qp_port_lanes.specs.At.{IsHome}
use Rattle.qp_port_lanes.proofs.Resting.{resting-same}
use Rattle.qp_port_lanes.specs.Takes.{BeginTakes}
use Rattle.qp_port_lanes.specs.Turning.{HomeHalts, NextTo}
use Rattle.qp_wait.specs.Lane.{bell_view}
use Rattle.qp_wait.specs.LaneLaws.{keeps-limit}
use Rattle.qp_wait.specs.Pausing.{HasLook, HasParkedAt, Pauses}
use Rattle.qp_wait.specs.Waiting.{RoundWaits, Waits}
use Rattle.qp_wait.proofs.FoundEmpty.{idles-few, idles-look}
use Rattle.qp_wait.proofs.Parts.{pause-halts, pause-rests}
use Rattle.qp_wait.proofs.Waiting.{waiting-none, waiting-parked, waiting-step, waits-before, waits-behind, waits-within}
use Rattle.qp_told.proofs.ToldLemmas.{tells-kept, tells-none, tells-then}
use Rattle.qp_wait.proofs.turning.rounds.Goals as goal

pub loop-init : goal.loop-init
loop-init g c = record { home = c.requires.knows; lane = goes-none false (bell_view c.args.lane.now); same = refl; waits = waiting-none c.args.lane.now; tells = tells-none c.args.home.now.object.taken c.args.gate.now.steps.list }

pub returns-in_err-begin-clause-lane : goal.returns-in_err-begin-clause-lane
returns-in_err-begin-clause-lane g c =
    let p = err_from_is_err_and c.from_residual.result c.from_residual.ensures.1 in
    rw (p.1, p.2) (halts-then false (bell_view c.args.lane.now) (bell_view c.loop.lane) (bell_view c.begin.new.lane) c.in_err-begin.field-0.0 c.loop.invariant.lane c.in_err-begin.ensures.lane)

pub returns-in_err-begin-clause-waits : goal.returns-in_err-begin-clause-waits
returns-in_err-begin-clause-waits g c =
    let takes = c.in_err-begin.ensures.takes in
    let p = err_from_is_err_and c.from_residual.result c.from_residual.ensures.1 in
    subst (λ r. RoundWaits r c.begin.new.home.busy c.args.lane.now c.begin.new.lane) (sym p.1)
    (subst (λ b. Waits false b 0 c.args.lane.now c.begin.new.lane) (sym (takes.1 ∙ c.loop.invariant.home.calm))
    (waits-before c.args.lane.now c.loop.lane c.loop.said c.loop.invariant.waits c.begin.new.lane takes.0 c.in_err-begin.ensures.counts))

pub loop-preserved-in_ok-finish : goal.loop-preserved-in_ok-finish
loop-preserved-in_ok-finish g c =
    let x = bell_view c.args.lane.now in
    let y = bell_view c.loop.lane in
    let z = bell_view c.begin.new.lane in
    let w = bell_view c.finish.new.lane in
    let took = subst (λ b. BeginTakes c.loop.home c.begin.new.home y.told z.told (Ok b)) c.if-branch.true c.in_ok-begin.ensures.takes in
    record {
      home = c.in_ok-finish.ensures.goes;
      lane = goes-then false x z w (goes-then false x y z c.loop.invariant.lane c.in_ok-begin.ensures.lane) c.in_ok-finish.ensures.lane;
      same = c.in_ok-finish.ensures.same ∙ c.in_ok-begin.ensures.same ∙ c.loop.invariant.same;
      tells = tells-kept c.args.home.now.object.taken c.begin.new.home.object.taken c.finish.new.home.object.taken c.args.gate.now.steps.list c.begin.new.gate.steps.list (tells-then c.args.home.now.object.taken c.loop.home.object.taken c.begin.new.home.object.taken c.args.gate.now.steps.list c.loop.gate.steps.list c.begin.new.gate.steps.list c.loop.invariant.tells c.in_ok-begin.ensures.tells) c.in_ok-finish.ensures.kept;
      waits = waiting-step c.args.lane.now c.loop.lane c.loop.said c.loop.invariant.waits c.begin.new.lane c.finish.new.lane took c.in_ok-begin.ensures.counts c.in_ok-finish.ensures.takes c.finish.new.said
          c.in_ok-finish.ensures.counts;
    }

pub returns-in_err-finish-clause-lane : goal.returns-in_err-finish-clause-lane
returns-in_err-finish-clause-lane g c =
    let x = bell_view c.args.lane.now in
    let y = bell_view c.loop.lane in
    let z = bell_view c.begin.new.lane in
    let w = bell_view c.finish.new.lane in
    let p = err_from_is_err_and c.from_residual-in_err-finish.result c.from_residual-in_err-finish.ensures.1 in
    rw (p.1, p.2) (halts-then false x z w c.in_err-finish.field-0.0 (goes-then false x y z c.loop.invariant.lane c.in_ok-begin.ensures.lane) c.in_err-finish.ensures.lane)

pub returns-in_err-finish-clause-waits : goal.returns-in_err-finish-clause-waits
returns-in_err-finish-clause-waits g c =
    let y = bell_view c.loop.lane in
    let z = bell_view c.begin.new.lane in
    let took = subst (λ b. BeginTakes c.loop.home c.begin.new.home y.told z.told (Ok b)) c.if-branch.true c.in_ok-begin.ensures.takes in
    let begun = subst (λ b. NextTo c.args.sys.now c.args.budget c.loop.home.me c.begin.new.home z (Ok b)) c.if-branch.true c.in_ok-begin.ensures.goes in
    let takes = c.in_err-finish.ensures.takes in
    let p = err_from_is_err_and c.from_residual-in_err-finish.result c.from_residual-in_err-finish.ensures.1 in
    subst (λ r. RoundWaits r c.finish.new.home.busy c.args.lane.now c.finish.new.lane) (sym p.1)
    (subst (λ b. Waits false b 0 c.args.lane.now c.finish.new.lane) (sym (takes.1 ∙ begun.busy))
    (waits-within c.args.lane.now c.loop.lane c.loop.said c.loop.invariant.waits c.begin.new.lane c.finish.new.lane took c.in_ok-begin.ensures.counts takes.0 c.finish.new.said c.in_err-finish.ensures.counts))

pub returns-then-not-has_found-clause-lane : goal.returns-then-not-has_found-clause-lane
returns-then-not-has_found-clause-lane g c =
    let x = bell_view c.args.lane.now in
    let y = bell_view c.loop.lane in
    let z = bell_view c.begin.new.lane in
    let idles = subst (λ b. NextTo c.args.sys.now c.args.budget c.loop.home.me c.begin.new.home z (Ok b)) c.if-branch.false c.in_ok-begin.ensures.goes in
    stops-memory false x z (bell_view c.give_up.new.lane) (goes-then false x y z c.loop.invariant.lane c.in_ok-begin.ensures.lane) c.give_up.ensures.stops

pub returns-then-not-has_found-clause-waits : goal.returns-then-not-has_found-clause-waits
returns-then-not-has_found-clause-waits g c =
    let y = bell_view c.loop.lane in
    let z = bell_view c.begin.new.lane in
    let idles = subst (λ b. NextTo c.args.sys.now c.args.budget c.loop.home.me c.begin.new.home z (Ok b)) c.if-branch.false c.in_ok-begin.ensures.goes in
    let empty = subst (λ b. BeginTakes c.loop.home c.begin.new.home y.told z.told (Ok b)) c.if-branch.false c.in_ok-begin.ensures.takes in
    let short = c.give_up.ensures in
    subst (λ b. Waits false b 0 c.args.lane.now c.give_up.new.lane) (sym idles.home.calm)
    (waits-behind c.args.lane.now c.loop.lane c.loop.said c.loop.invariant.waits c.begin.new.lane c.give_up.new.lane c.loop.home.me empty c.in_ok-begin.ensures.counts false (ap (λ v. v.told) short.stops) short.rests short.parks)

pub pause-requires-clause-look : goal.pause-requires-clause-look
pause-requires-clause-look g c =
    let z = bell_view c.begin.new.lane in
    let idles = subst (λ b. NextTo c.args.sys.now c.args.budget c.loop.home.me c.begin.new.home z (Ok b)) c.if-branch.false c.in_ok-begin.ensures.goes in
    subst (λ n. HasLook n z.told) (sym c.priority-else-not-has_found.ensures) (idles-look c.args.sys.now c.args.budget c.begin.new.home z idles)

pub pause-requires-clause-few : goal.pause-requires-clause-few
pause-requires-clause-few g c =
    let z = bell_view c.begin.new.lane in
    let idles = subst (λ b. NextTo c.args.sys.now c.args.budget c.loop.home.me c.begin.new.home z (Ok b)) c.if-branch.false c.in_ok-begin.ensures.goes in
    idles-few c.args.sys.now c.args.budget c.begin.new.home z idles (keeps-limit c.begin.new.lane)

pub returns-in_err-pause-clause-goes : goal.returns-in_err-pause-clause-goes
returns-in_err-pause-clause-goes g c =
    let x = bell_view c.args.lane.now in
    let y = bell_view c.loop.lane in
    let z = bell_view c.begin.new.lane in
    let idles = subst (λ b. NextTo c.args.sys.now c.args.budget c.loop.home.me c.begin.new.home z (Ok b)) c.if-branch.false c.in_ok-begin.ensures.goes in
    let h = c.in_err-pause.field-0.0 in
    let paused = subst (λ n. Pauses n c.begin.new.lane c.pause.new.lane (Err h)) c.priority-else-not-has_found.ensures c.in_err-pause.ensures.pauses in
    let p = err_from_is_err_and c.from_residual-in_err-pause.result c.from_residual-in_err-pause.ensures.1 in
    rw (p.1, p.2)
    (subst (λ me. HomeHalts c.args.sys.now c.args.budget me c.begin.new.home (bell_view c.pause.new.lane) h) (c.in_ok-begin.ensures.same ∙ c.loop.invariant.same)
    (pause-halts c.args.sys.now c.requires.sound c.args.budget c.begin.new.home c.begin.new.lane c.pause.new.lane idles.home x h (goes-then false x y z c.loop.invariant.lane c.in_ok-begin.ensures.lane) paused).0)

pub returns-in_err-pause-clause-lane : goal.returns-in_err-pause-clause-lane
returns-in_err-pause-clause-lane g c =
    let x = bell_view c.args.lane.now in
    let y = bell_view c.loop.lane in
    let z = bell_view c.begin.new.lane in
    let idles = subst (λ b. NextTo c.args.sys.now c.args.budget c.loop.home.me c.begin.new.home z (Ok b)) c.if-branch.false c.in_ok-begin.ensures.goes in
    let h = c.in_err-pause.field-0.0 in
    let paused = subst (λ n. Pauses n c.begin.new.lane c.pause.new.lane (Err h)) c.priority-else-not-has_found.ensures c.in_err-pause.ensures.pauses in
    let p = err_from_is_err_and c.from_residual-in_err-pause.result c.from_residual-in_err-pause.ensures.1 in
    rw (p.1, p.2) (pause-halts c.args.sys.now c.requires.sound c.args.budget c.begin.new.home c.begin.new.lane c.pause.new.lane idles.home x h (goes-then false x y z c.loop.invariant.lane c.in_ok-begin.ensures.lane) paused).1

pub returns-in_err-pause-clause-waits : goal.returns-in_err-pause-clause-waits
returns-in_err-pause-clause-waits g c =
    let y = bell_view c.loop.lane in
    let z = bell_view c.begin.new.lane in
    let idles = subst (λ b. NextTo c.args.sys.now c.args.budget c.loop.home.me c.begin.new.home z (Ok b)) c.if-branch.false c.in_ok-begin.ensures.goes in
    let empty = subst (λ b. BeginTakes c.loop.home c.begin.new.home y.told z.told (Ok b)) c.if-branch.false c.in_ok-begin.ensures.takes in
    let rests = pause-rests c.priority-else-not-has_found.result c.begin.new.lane c.pause.new.lane c.in_err-pause.field-0.0 c.in_err-pause.ensures.pauses in
    let p = err_from_is_err_and c.from_residual-in_err-pause.result c.from_residual-in_err-pause.ensures.1 in
    subst (λ r. RoundWaits r c.begin.new.home.busy c.args.lane.now c.pause.new.lane) (sym p.1)
    (subst (λ b. Waits false b 0 c.args.lane.now c.pause.new.lane) (sym idles.home.calm)
    (waits-behind c.args.lane.now c.loop.lane c.loop.said c.loop.invariant.waits c.begin.new.lane c.pause.new.lane c.loop.home.me empty c.in_ok-begin.ensures.counts false rests.0 rests.1 rests.2))

pub returns-then-not-branch-clause-lane : goal.returns-then-not-branch-clause-lane
returns-then-not-branch-clause-lane g c =
    let x = bell_view c.args.lane.now in
    let y = bell_view c.loop.lane in
    let z = bell_view c.begin.new.lane in
    let over = subst (λ b. Pauses c.priority-else-not-has_found.result c.begin.new.lane c.pause.new.lane (Ok b)) c.if-not-branch.true c.in_ok-pause.ensures.pauses in
    subst (LaneGoes false x) (sym over.lane) (goes-then false x y z c.loop.invariant.lane c.in_ok-begin.ensures.lane)

pub returns-then-not-branch-clause-waits : goal.returns-then-not-branch-clause-waits
returns-then-not-branch-clause-waits g c =
    let y = bell_view c.loop.lane in
    let z = bell_view c.begin.new.lane in
    let idles = subst (λ b. NextTo c.args.sys.now c.args.budget c.loop.home.me c.begin.new.home z (Ok b)) c.if-branch.false c.in_ok-begin.ensures.goes in
    let empty = subst (λ b. BeginTakes c.loop.home c.begin.new.home y.told z.told (Ok b)) c.if-branch.false c.in_ok-begin.ensures.takes in
    let over = subst (λ b. Pauses c.priority-else-not-has_found.result c.begin.new.lane c.pause.new.lane (Ok b)) c.if-not-branch.true c.in_ok-pause.ensures.pauses in
    subst (λ b. Waits true b 0 c.args.lane.now c.pause.new.lane) (sym idles.home.calm)
    (waits-behind c.args.lane.now c.loop.lane c.loop.said c.loop.invariant.waits c.begin.new.lane c.pause.new.lane c.loop.home.me empty c.in_ok-begin.ensures.counts true (ap (λ v. v.told) over.lane) over.rests over.parks)

pub loop-preserved : goal.loop-preserved
loop-preserved g c =
    let x = bell_view c.args.lane.now in
    let y = bell_view c.loop.lane in
    let z = bell_view c.begin.new.lane in
    let idles = subst (λ b. NextTo c.args.sys.now c.args.budget c.loop.home.me c.begin.new.home z (Ok b)) c.if-branch.false c.in_ok-begin.ensures.goes in
    let empty = subst (λ b. BeginTakes c.loop.home c.begin.new.home y.told z.told (Ok b)) c.if-branch.false c.in_ok-begin.ensures.takes in
    let parked = subst (λ b. Pauses c.priority-else-not-has_found.result c.begin.new.lane c.pause.new.lane (Ok b)) c.if-not-branch.false c.in_ok-pause.ensures.pauses in
    record {
      home = subst (IsHome c.args.sys.now c.args.budget c.begin.new.home) (sym parked.1)
          (resting-same c.args.sys.now c.requires.sound c.args.budget c.begin.new.home z idles.home (asked_once z) refl refl (λ o. refl) refl refl (omega arith));
      lane = subst (LaneGoes false x) (sym parked.1) (goes-then false x z (asked_once z) (goes-then false x y z c.loop.invariant.lane c.in_ok-begin.ensures.lane) (goes-once false z));
      same = c.in_ok-begin.ensures.same ∙ c.loop.invariant.same;
      tells = tells-then c.args.home.now.object.taken c.loop.home.object.taken c.begin.new.home.object.taken c.args.gate.now.steps.list c.loop.gate.steps.list c.begin.new.gate.steps.list c.loop.invariant.tells c.in_ok-begin.ensures.tells;
      waits = waiting-parked c.args.lane.now c.loop.lane c.loop.said c.loop.invariant.waits c.begin.new.lane c.pause.new.lane c.loop.home.me empty c.in_ok-begin.ensures.counts
          (subst (λ n. HasParkedAt n c.begin.new.lane c.pause.new.lane) (c.priority-else-not-has_found.ensures ∙ c.in_ok-begin.ensures.same) parked.0);
    }

pub returns-in_err-begin-clause-tells : goal.returns-in_err-begin-clause-tells
returns-in_err-begin-clause-tells g c = tells-then c.args.home.now.object.taken c.loop.home.object.taken c.begin.new.home.object.taken c.args.gate.now.steps.list c.loop.gate.steps.list c.begin.new.gate.steps.list c.loop.invariant.tells c.in_err-begin.ensures.tells

pub returns-in_err-finish-clause-tells : goal.returns-in_err-finish-clause-tells
returns-in_err-finish-clause-tells g c = tells-kept c.args.home.now.object.taken c.begin.new.home.object.taken c.finish.new.home.object.taken c.args.gate.now.steps.list c.begin.new.gate.steps.list (tells-then c.args.home.now.object.taken c.loop.home.object.taken c.begin.new.home.object.taken c.args.gate.now.steps.list c.loop.gate.steps.list c.begin.new.gate.steps.list c.loop.invariant.tells c.in_ok-begin.ensures.tells) c.in_err-finish.ensures.kept

pub returns-then-not-has_found-clause-tells : goal.returns-then-not-has_found-clause-tells
returns-then-not-has_found-clause-tells g c = tells-then c.args.home.now.object.taken c.loop.home.object.taken c.begin.new.home.object.taken c.args.gate.now.steps.list c.loop.gate.steps.list c.begin.new.gate.steps.list c.loop.invariant.tells c.in_ok-begin.ensures.tells

pub returns-in_err-pause-clause-tells : goal.returns-in_err-pause-clause-tells
returns-in_err-pause-clause-tells g c = tells-then c.args.home.now.object.taken c.loop.home.object.taken c.begin.new.home.object.taken c.args.gate.now.steps.list c.loop.gate.steps.list c.begin.new.gate.steps.list c.loop.invariant.tells c.in_ok-begin.ensures.tells

pub returns-then-not-branch-clause-tells : goal.returns-then-not-branch-clause-tells
returns-then-not-branch-clause-tells g c = tells-then c.args.home.now.object.taken c.loop.home.object.taken c.begin.new.home.object.taken c.args.gate.now.steps.list c.loop.gate.steps.list c.begin.new.gate.steps.list c.loop.invariant.tells c.in_ok-begin.ensures.tells
