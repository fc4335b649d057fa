use Rattle.std.proofs.Common.{◌∙◌, map, arith}
use Rattle.std.proofs.lemmas.List.{length-map}
use denote.Param.Send.{sendable}
use Rattle.qp_port.proofs.CrossingLemmas.{worker-send}
use Rattle.qp_port.proofs.Rows.{ready-map}
use Rattle.qp_port.proofs.Beginning.{all-begin, lanes-long}
use Rattle.qp_port.proofs.Standing.{end-either}
use Rattle.qp_port.proofs.Running.{cause-left, fed-left, lanes-left, one-table, run-left}
use Rattle.qp_port.proofs.run.run_lanes_of.Goals as goal

pub new_workers-requires-clause-many : goal.new_workers-requires-clause-many
new_workers-requires-clause-many g c =
    let long = lanes-long c.args.at.now.sys.now c.args.at.now.stim.now (map g.O.Ops.lane c.args.lanes.items) c.requires.lanes in
    let same = length-map c.args.lanes.items g.O.Ops.lane in
    omega (arith, long, same)

pub run_workers-over-requires-send-T : goal.run_workers-over-requires-send-T
run_workers-over-requires-send-T g c κs within =
    let o = c.type_bounds.send-O in
    let y = c.type_bounds.sync-G in
    let u = c.type_bounds.sync-T in
    search (worker-send, sendable) depth 20

pub run_workers-over-requires-clause-fresh : goal.run_workers-over-requires-clause-fresh
run_workers-over-requires-clause-fresh g c κs within =
    let begun =
    all-begin c.args.at.now.sys.now c.args.at.now.stim.now c.args.at.now.budget c.requires.sound c.requires.fit c.requires.few (λ w. w.sys.now) (λ w. w.budget) (λ w. w.turn) (λ w. w.job) (λ w. w.lane) g.O.Ops.lane c.args.lanes.items c.in_ok-workers.workers.items
    c.in_ok-workers.ensures c.requires.lanes in
    begun.begin

pub run_workers-over-requires-clause-table : goal.run_workers-over-requires-clause-table
run_workers-over-requires-clause-table g c κs within =
    let lane = g.O.Ops.lane in
    let begun =
    all-begin c.args.at.now.sys.now c.args.at.now.stim.now c.args.at.now.budget c.requires.sound c.requires.fit c.requires.few (λ w. w.sys.now) (λ w. w.budget) (λ w. w.turn) (λ w. w.job) (λ w. w.lane) lane c.args.lanes.items c.in_ok-workers.workers.items
    c.in_ok-workers.ensures c.requires.lanes in
    one-table c.args.at.now.sys.now c.args.at.now.stim.now c.args.at.now.budget c.requires.sound c.requires.fit c.requires.few (λ w. w.sys.now) (λ w. w.budget) (λ w. w.turn) (λ w. w.job) (λ w. lane w.lane) c.in_ok-workers.workers.items begun
    c.as_slice.result.now (c.as_slice.ensures.value ∙ c.in-Ok.ensures)

pub returns-clause-lanes : goal.returns-clause-lanes
returns-clause-lanes g c =
    let lane = g.O.Ops.lane in
    let begun =
    all-begin c.args.at.now.sys.now c.args.at.now.stim.now c.args.at.now.budget c.requires.sound c.requires.fit c.requires.few (λ w. w.sys.now) (λ w. w.budget) (λ w. w.turn) (λ w. w.job) (λ w. w.lane) lane c.args.lanes.items c.in_ok-workers.workers.items
    c.in_ok-workers.ensures c.requires.lanes in
    lanes-left c.args.at.now.sys.now c.args.at.now.stim.now c.args.at.now.budget c.requires.sound c.requires.fit c.requires.few (λ w. w.sys.now) (λ w. w.budget) (λ w. w.turn) (λ w. w.job) (λ w. w.lane) lane c.in_ok-workers.workers.items begun
    c.run_workers-over.result.workers.items c.run_workers-over.ensures.same c.args.lanes.items c.in_ok-workers.ensures.lanes_are c.left_of.result (λ run. run.lanes.items) c.left_of.ensures.lanes

pub returns-clause-run : goal.returns-clause-run
returns-clause-run g c =
    let lane = g.O.Ops.lane in
    let begun =
    all-begin c.args.at.now.sys.now c.args.at.now.stim.now c.args.at.now.budget c.requires.sound c.requires.fit c.requires.few (λ w. w.sys.now) (λ w. w.budget) (λ w. w.turn) (λ w. w.job) (λ w. w.lane) lane c.args.lanes.items c.in_ok-workers.workers.items
    c.in_ok-workers.ensures c.requires.lanes in
    run-left c.args.at.now.sys.now c.args.at.now.stim.now c.args.at.now.budget c.requires.sound c.requires.fit c.requires.few (λ w. w.sys.now) (λ w. w.budget) (λ w. w.turn) (λ w. w.job) (λ w. w.lane) lane c.in_ok-workers.workers.items begun
    c.run_workers-over.result.workers.items c.run_workers-over.ensures.same c.left_of.result (λ run. run.lanes.items) (λ run. run.rests.items) (λ run. run.done) c.left_of.ensures.lanes c.run_workers-over.result.how c.as_slice.result.now (c.as_slice.ensures.value ∙ c.in-Ok.ensures)
    (ready-map _ _ (λ w h. end-either w.sys.now w.budget w.turn w.job (lane w.lane) h) c.run_workers-over.result.workers.items c.run_workers-over.ensures.each)
    c.run_workers-over.ensures.ready c.run_workers-over.ensures.idle c.left_of.ensures.rests c.left_of.ensures.short c.left_of.ensures.idle c.run_workers-over.ensures.first

pub returns-clause-cause : goal.returns-clause-cause
returns-clause-cause g c =
    let lane = g.O.Ops.lane in
    let begun =
    all-begin c.args.at.now.sys.now c.args.at.now.stim.now c.args.at.now.budget c.requires.sound c.requires.fit c.requires.few (λ w. w.sys.now) (λ w. w.budget) (λ w. w.turn) (λ w. w.job) (λ w. w.lane) lane c.args.lanes.items c.in_ok-workers.workers.items
    c.in_ok-workers.ensures c.requires.lanes in
    cause-left c.args.at.now.sys.now c.args.at.now.stim.now c.args.at.now.budget c.requires.sound c.requires.fit c.requires.few (λ w. w.sys.now) (λ w. w.budget) (λ w. w.turn) (λ w. w.job) (λ w. w.lane) lane c.in_ok-workers.workers.items begun
    c.run_workers-over.result.workers.items c.run_workers-over.ensures.same c.left_of.result (λ run. run.lanes.items) (λ run. run.done) c.left_of.ensures.lanes c.run_workers-over.result.how
    c.run_workers-over.ensures.stopped c.run_workers-over.ensures.each c.left_of.ensures.short c.left_of.ensures.cause

pub returns-clause-fed : goal.returns-clause-fed
returns-clause-fed g c =
    let lane = g.O.Ops.lane in
    let begun =
    all-begin c.args.at.now.sys.now c.args.at.now.stim.now c.args.at.now.budget c.requires.sound c.requires.fit c.requires.few (λ w. w.sys.now) (λ w. w.budget) (λ w. w.turn) (λ w. w.job) (λ w. w.lane) lane c.args.lanes.items c.in_ok-workers.workers.items
    c.in_ok-workers.ensures c.requires.lanes in
    fed-left c.args.at.now.sys.now c.args.at.now.stim.now c.args.at.now.budget c.requires.sound c.requires.fit c.requires.few (λ w. w.sys.now) (λ w. w.budget) (λ w. w.turn) (λ w. w.job) (λ w. w.lane) lane c.in_ok-workers.workers.items begun
    c.run_workers-over.result.workers.items c.run_workers-over.ensures.same c.left_of.result (λ run. run.lanes.items) c.left_of.ensures.lanes c.run_workers-over.ensures.each c.left_of.ensures.short
