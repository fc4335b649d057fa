use Rattle.std.proofs.Common.{refl, rules}
use Rattle.qp_dispatch.proofs.ActLemmas.{act-said, act-set, cut-none, settled}
use Rattle.qp_dispatch.proofs.CallLemmas.{some-call}
use Rattle.qp_dispatch.specs.Lasts.{moment_of_work, names_at}
use Rattle.qp_calls.proofs.Flushing.{fault-still}
use Rattle.qp_dispatch.proofs.act.act.Goals as goal

pub returns-in-Set : goal.returns-in-Set
returns-in-Set g c =
    act-set c.args.me c.args.lasting.now c.args.work.now c.args.plain.now c.in-Set.var c.in-Set.value c.set.new.vars c.eval-x.result _ _ c.in-Set.is c.surroundings.ensures c.eval-x.ensures
    (search rules) c.set.ensures

pub returns-in-Ok : goal.returns-in-Ok
returns-in-Ok g c =
    act-said c.args.me c.args.lasting.now c.args.work.now c.args.plain.now c.in-Say.value c.eval-x-in-Say.result _ _ _ c.in-Say.is c.surroundings-in-Say.ensures c.eval-x-in-Say.ensures (search rules) c.in-Ok.ensures.ok

pub returns-in-Err : goal.returns-in-Err
returns-in-Err g c =
    let e = c.in-Err.ensures.err in
    (cut-none c.args.me c.args.lasting.now c.args.lasting.now (moment_of_work c.args.work.now) c.args.plain.now _ _ refl e.0, fault-still c.in-Err.fault _ _ e.0 e.1)

pub returns-in_default : goal.returns-in_default
returns-in_default g c =
    let lane = g.O.Ops.lane in
    let x = some-call (names_at c.args.me c.args.lasting.now c.args.work.now) c.args.plain.now c.requires.single c.in_default.not-Set c.in_default.not-Say in
    settled c.args.me c.args.lasting.now c.call-answer.new.lasting c.settle.new.lasting c.args.work.now c.args.plain.now x.0 c.call-answer.result c.settle.result (lane c.args.ops.now) (lane c.call-answer.new.ops)
    x.1 x.2 c.requires.mine c.call-answer.ensures.rest (c.call-answer.ensures.done x.0 x.1 x.2) c.settle.ensures
