use denote.Param.Send.{sendable}
use Rattle.qp_port_qk.proofs.CrossingLemmas.{worker-send}
use Rattle.std.proofs.Common.{◌≡◌, ◌⊎◌, arith, map, sym, subst, ◌∙◌, false, Some, true}
use Rattle.std.specs.Prelude.{IfOk, OnOk}
use Rattle.std.specs.List.{AllByRecursion, list_all}
use Rattle.qp_port_phases.specs.declared.phases.PhasesEnd.TheVariants as ended
use Rattle.qp_port_lanes.specs.Answers.{IsFed, is_idle, is_short}
use Rattle.qp_port_qk.specs.Resting.{AreLeft}
use Rattle.std.specs.List.{list_any}
use Rattle.std.proofs.lemmas.List.{length-map}
use Rattle.qp_port_phases.specs.Lanes.{AreOneTable, SameEach}
use Rattle.qp_port_phases.specs.Stopping.{AnyStopped}
use Rattle.qp_port_qk.specs.Ends.{HasQkRun, has_ended_idle}
use Rattle.qp_model_order.specs.SourceRun.{untold_all}
use Rattle.qp_kernel.specs.Starts.{AreStarts}
use Rattle.qp_port_phases.specs.Starting.{StartFirst}
use Rattle.qp_port_qk.specs.Jobs.{QkJobIsAlone, qk_starts_of}
use Rattle.qp_port_lanes.specs.Workers.{AreSameLanes}
use Rattle.qp_port_qk.specs.Workers.{FirstBegins, IsSameQkWorker, QkMayBegin, QkMayEnd, QkMayTurn, IsBlank, OthersAre}
use Rattle.qp_port_qk.proofs.Ending.{either-end}
use Rattle.qp_port_qk.proofs.Rows.{ready-map}
use Rattle.qp_port_qk.proofs.Beginning.{all-begin, new-many}
use Rattle.qp_port_qk.proofs.Running.{all-fed, cause, cause-left, each-long, fed-left, lanes-left, ok-all, ok-both, ok-map, one-table, ran, run-left, same-lanes, taken-whole}
use Rattle.qp_port_qk.proofs.run.run_lanes_of_qk.Goals as goal

pub new_workers-requires-clause-many : goal.new_workers-requires-clause-many
new_workers-requires-clause-many g c =
    let a = new-many c.args.sys.now c.args.stim.now (map g.W.Ops.lane c.args.lanes.items) c.requires.lanes in
    let b = length-map c.args.lanes.items g.W.Ops.lane in
    omega (arith, a, b)

pub start_and_run-how-requires-send-T : goal.start_and_run-how-requires-send-T
start_and_run-how-requires-send-T g c κs within =
    let w = c.type_bounds.send-W in
    let y = c.type_bounds.sync-G in
    search (worker-send, sendable) depth 20

pub start_and_run-how-requires-clause-begins : goal.start_and_run-how-requires-clause-begins
start_and_run-how-requires-clause-begins g c κs within =
    let all = all-begin g.W.World.acts c.requires.alone c.args.sys.now c.args.stim.now c.args.budget c.requires.sound c.requires.fit c.requires.few (λ w. w.sys.now) (λ w. w.budget) (λ w. w.turn) (λ w. w.job) (λ w. w.lane) g.W.Ops.lane
    c.args.lanes.items c.in_ok-workers.workers.items c.in_ok-workers.ensures c.requires.lanes in
    subst (FirstBegins (λ w. QkMayBegin g.W.World.acts w.sys.now w.budget w.turn w.job (g.W.Ops.lane w.lane)) (λ w. QkMayTurn g.W.World.acts w.sys.now w.budget w.turn w.job (g.W.Ops.lane w.lane))) (sym c.as_mut_slice.ensures.value) all.begin

pub start_and_run-how-requires-clause-blank : goal.start_and_run-how-requires-clause-blank
start_and_run-how-requires-clause-blank g c κs within =
    let all = all-begin g.W.World.acts c.requires.alone c.args.sys.now c.args.stim.now c.args.budget c.requires.sound c.requires.fit c.requires.few (λ w. w.sys.now) (λ w. w.budget) (λ w. w.turn) (λ w. w.job) (λ w. w.lane) g.W.Ops.lane
    c.args.lanes.items c.in_ok-workers.workers.items c.in_ok-workers.ensures c.requires.lanes in
    subst (OthersAre (λ w. IsBlank w.sys.now w.job (g.W.Ops.lane w.lane))) (sym c.as_mut_slice.ensures.value) all.blank

pub start_and_run-how-requires-clause-table : goal.start_and_run-how-requires-clause-table
start_and_run-how-requires-clause-table g c κs within =
    let all = all-begin g.W.World.acts c.requires.alone c.args.sys.now c.args.stim.now c.args.budget c.requires.sound c.requires.fit c.requires.few (λ w. w.sys.now) (λ w. w.budget) (λ w. w.turn) (λ w. w.job) (λ w. w.lane) g.W.Ops.lane
    c.args.lanes.items c.in_ok-workers.workers.items c.in_ok-workers.ensures c.requires.lanes in
    subst (AreOneTable (λ w. g.W.Ops.lane w.lane) c.as_slice.result.now) (sym c.as_mut_slice.ensures.value)
    (one-table g.W.World.acts c.requires.alone c.args.sys.now c.args.stim.now c.args.budget c.requires.sound c.requires.fit c.requires.few (λ w. w.sys.now) (λ w. w.budget) (λ w. w.turn) (λ w. w.job) (λ w. g.W.Ops.lane w.lane)
    c.in_ok-workers.workers.items all c.as_slice.result.now (c.as_slice.ensures.value ∙ c.in-Ok.ensures))

pub returns-clause-lanes : goal.returns-clause-lanes
returns-clause-lanes g c =
    let made = c.in_ok-workers.ensures in
    let ys = c.start_and_run-how.new.workers in
    let all = all-begin g.W.World.acts c.requires.alone c.args.sys.now c.args.stim.now c.args.budget c.requires.sound c.requires.fit c.requires.few (λ w. w.sys.now) (λ w. w.budget) (λ w. w.turn) (λ w. w.job) (λ w. w.lane) g.W.Ops.lane
    c.args.lanes.items c.in_ok-workers.workers.items made c.requires.lanes in
    let same = subst (λ us. SameEach (λ a b. IsSameQkWorker a.sys.now b.sys.now a.budget b.budget a.job b.job (g.W.Ops.lane a.lane) (g.W.Ops.lane b.lane)) us ys) c.as_mut_slice.ensures.value c.start_and_run-how.ensures.same in
    let a = c.as_mut_slice.ensures.len in
    let b = each-long (λ a b. IsSameQkWorker a.sys.now b.sys.now a.budget b.budget a.job b.job (g.W.Ops.lane a.lane) (g.W.Ops.lane b.lane)) c.as_mut_slice.result.now ys c.start_and_run-how.ensures.same in
    let whole = taken-whole c.in_ok-workers.workers.len ys _ (omega (arith, a, b)) in
    ok-map (λ run. run.lanes.items ≡ map (λ w. w.lane) ys) (λ run. AreSameLanes (map g.W.Ops.lane c.args.lanes.items) (map g.W.Ops.lane run.lanes.items))
    (λ run h. lanes-left (λ w. w.lane) g.W.Ops.lane c.args.lanes.items run.lanes.items c.in_ok-workers.workers.items ys made.lanes_are h
    (same-lanes g.W.World.acts c.requires.alone c.args.sys.now c.args.stim.now c.args.budget c.requires.sound c.requires.fit c.requires.few (λ w. w.sys.now) (λ w. w.budget) (λ w. w.turn) (λ w. w.job) (λ w. g.W.Ops.lane w.lane)
    c.in_ok-workers.workers.items all ys same))
    c.left_of.result (subst (λ us. IfOk c.left_of.result (λ run. run.lanes.items ≡ map (λ w. w.lane) us)) whole c.left_of.ensures.lanes)

pub returns-clause-run : goal.returns-clause-run
returns-clause-run g c =
    let made = c.in_ok-workers.ensures in
    let ys = c.start_and_run-how.new.workers in
    let went = c.start_and_run-how.ensures in
    let all = all-begin g.W.World.acts c.requires.alone c.args.sys.now c.args.stim.now c.args.budget c.requires.sound c.requires.fit c.requires.few (λ w. w.sys.now) (λ w. w.budget) (λ w. w.turn) (λ w. w.job) (λ w. w.lane) g.W.Ops.lane
    c.args.lanes.items c.in_ok-workers.workers.items made c.requires.lanes in
    let same = subst (λ us. SameEach (λ a b. IsSameQkWorker a.sys.now b.sys.now a.budget b.budget a.job b.job (g.W.Ops.lane a.lane) (g.W.Ops.lane b.lane)) us ys) c.as_mut_slice.ensures.value went.same in
    let a = c.as_mut_slice.ensures.len in
    let b = each-long (λ a b. IsSameQkWorker a.sys.now b.sys.now a.budget b.budget a.job b.job (g.W.Ops.lane a.lane) (g.W.Ops.lane b.lane)) c.as_mut_slice.result.now ys c.start_and_run-how.ensures.same in
    let whole = taken-whole c.in_ok-workers.workers.len ys _ (omega (arith, a, b)) in
    let first =
    subst (λ us. StartFirst (λ w. g.W.Ops.lane w.lane) (λ w. QkJobIsAlone w.sys.now w.turn w.job (g.W.Ops.lane w.lane)) (λ w. AreStarts (qk_starts_of w.sys.now w.job) (untold_all (g.W.Ops.lane w.lane).told))
    (λ a b. IsSameQkWorker a.sys.now b.sys.now a.budget b.budget a.job b.job (g.W.Ops.lane a.lane) (g.W.Ops.lane b.lane)) us ys) c.as_mut_slice.ensures.value went.first in
    ok-all (list_any (λ w. is_short w.turn) ys ≡ false) (λ run. run.lanes.items ≡ map (λ w. w.lane) ys) (λ run. AreLeft (λ w. w.job) c.start_and_run-how.result ys run.rests.items)
    (λ run. run.done ≡ true → (c.start_and_run-how.result ≡ Some ended.Idle) × (list_all (λ w. is_idle w.turn) ys ≡ true)) (λ run. HasQkRun c.args.sys.now c.args.stim.now c.args.budget run.done run.rests.items (map g.W.Ops.lane run.lanes.items))
    (λ run lanes rests short idle. run-left (λ w. w.lane) g.W.Ops.lane c.args.sys.now c.args.stim.now c.args.budget run.done run.rests.items run.lanes.items ys lanes
    (ran g.W.World.acts c.requires.alone c.args.sys.now c.args.stim.now c.args.budget c.requires.sound c.requires.fit c.requires.few (λ w. w.sys.now) (λ w. w.budget) (λ w. w.turn) (λ w. w.job) (λ w. g.W.Ops.lane w.lane)
    c.in_ok-workers.workers.items all ys same c.start_and_run-how.result run.done run.rests.items c.as_slice.result.now (c.as_slice.ensures.value ∙ c.in-Ok.ensures) (ready-map (λ w. QkMayTurn g.W.World.acts w.sys.now w.budget w.turn w.job (g.W.Ops.lane w.lane) ⊎ QkMayEnd w.sys.now w.budget w.turn w.job (g.W.Ops.lane w.lane)) (λ w. QkMayEnd w.sys.now w.budget w.turn w.job (g.W.Ops.lane w.lane))
    (λ w h. either-end g.W.World.acts w.sys.now w.budget w.turn w.job (g.W.Ops.lane w.lane) h) ys went.each) went.ready went.rows went.idle rests short idle first))
    c.left_of.result (subst (λ us. IfOk c.left_of.result (λ run. run.lanes.items ≡ map (λ w. w.lane) us)) whole c.left_of.ensures.lanes)
    (subst (λ us. IfOk c.left_of.result (λ run. AreLeft (λ w. w.job) c.start_and_run-how.result us run.rests.items)) whole c.left_of.ensures.rests)
    (subst (λ us. OnOk c.left_of.result (list_any (λ w. is_short w.turn) us ≡ false)) whole c.left_of.ensures.short)
    (subst (λ us. IfOk c.left_of.result (λ run. run.done ≡ true → (c.start_and_run-how.result ≡ Some ended.Idle) × (list_all (λ w. is_idle w.turn) us ≡ true))) whole c.left_of.ensures.idle)

pub returns-clause-cause : goal.returns-clause-cause
returns-clause-cause g c =
    let ys = c.start_and_run-how.new.workers in
    let went = c.start_and_run-how.ensures in
    let a = c.as_mut_slice.ensures.len in
    let b = each-long (λ a b. IsSameQkWorker a.sys.now b.sys.now a.budget b.budget a.job b.job (g.W.Ops.lane a.lane) (g.W.Ops.lane b.lane)) c.as_mut_slice.result.now ys c.start_and_run-how.ensures.same in
    let whole = taken-whole c.in_ok-workers.workers.len ys _ (omega (arith, a, b)) in
    ok-all (list_any (λ w. is_short w.turn) ys ≡ false) (λ run. run.lanes.items ≡ map (λ w. w.lane) ys) (λ run. run.lanes.items ≡ map (λ w. w.lane) ys)
    (λ run. run.done ≡ false → (has_ended_idle c.start_and_run-how.result ≡ false) ⊎ (list_all (λ w. is_idle w.turn) ys ≡ false)) (λ run. run.done ≡ false → AnyStopped (map g.W.Ops.lane run.lanes.items))
    (λ run lanes again short left. λ not_done. cause-left (λ w. w.lane) g.W.Ops.lane run.lanes.items ys lanes
    (cause g.W.World.acts (λ w. w.sys.now) (λ w. w.budget) (λ w. w.turn) (λ w. w.job) (λ w. g.W.Ops.lane w.lane) c.as_mut_slice.result.now ys c.start_and_run-how.result went.none went.stopped went.memory went.each short (left not_done)))
    c.left_of.result (subst (λ us. IfOk c.left_of.result (λ run. run.lanes.items ≡ map (λ w. w.lane) us)) whole c.left_of.ensures.lanes)
    (subst (λ us. IfOk c.left_of.result (λ run. run.lanes.items ≡ map (λ w. w.lane) us)) whole c.left_of.ensures.lanes)
    (subst (λ us. OnOk c.left_of.result (list_any (λ w. is_short w.turn) us ≡ false)) whole c.left_of.ensures.short)
    (subst (λ us. IfOk c.left_of.result (λ run. run.done ≡ false → (has_ended_idle c.start_and_run-how.result ≡ false) ⊎ (list_all (λ w. is_idle w.turn) us ≡ false))) whole c.left_of.ensures.cause)

pub returns-clause-fed : goal.returns-clause-fed
returns-clause-fed g c =
    let ys = c.start_and_run-how.new.workers in
    let went = c.start_and_run-how.ensures in
    let a = c.as_mut_slice.ensures.len in
    let b = each-long (λ a b. IsSameQkWorker a.sys.now b.sys.now a.budget b.budget a.job b.job (g.W.Ops.lane a.lane) (g.W.Ops.lane b.lane)) c.as_mut_slice.result.now ys c.start_and_run-how.ensures.same in
    let whole = taken-whole c.in_ok-workers.workers.len ys _ (omega (arith, a, b)) in
    ok-both (list_any (λ w. is_short w.turn) ys ≡ false) (λ run. run.lanes.items ≡ map (λ w. w.lane) ys) (λ run. AllByRecursion IsFed (map g.W.Ops.lane run.lanes.items))
    (λ run lanes short. fed-left (λ w. w.lane) g.W.Ops.lane run.lanes.items ys lanes
    (all-fed g.W.World.acts (λ w. w.sys.now) (λ w. w.budget) (λ w. w.turn) (λ w. w.job) (λ w. g.W.Ops.lane w.lane) ys short went.each))
    c.left_of.result (subst (λ us. IfOk c.left_of.result (λ run. run.lanes.items ≡ map (λ w. w.lane) us)) whole c.left_of.ensures.lanes)
    (subst (λ us. OnOk c.left_of.result (list_any (λ w. is_short w.turn) us ≡ false)) whole c.left_of.ensures.short)
