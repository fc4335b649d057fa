use Rattle.std.proofs.Common.{◌∙◌, ◌≤◌, List, length, ap, refl, subst, arith}
use Rattle.std.proofs.lemmas.Result.{err_from_is_err_and}
use Rattle.qp_model.specs.declared.systems.ObjectDef.{ObjectDef}
use Rattle.qp_model.specs.declared.systems.System.{System}
use Rattle.qp_model.specs.declared.bodies.Body.TheVariants.{Settle}
use Rattle.qp_calls.proofs.Flushing.{fault-still}
use Rattle.qp_calls.proofs.Noting.{adds-note, may-note}
use Rattle.qp_calls_stimulus.proofs.Settled.{at, by-none, none-seen, object-here, seen-all, seen-more, seen-entry, settle-cut, settle-none}
use Rattle.qp_calls_stimulus.proofs.settling.settle.Goals as goal

pub returns-in_err-room : goal.returns-in_err-room
returns-in_err-room g c =
    let p = err_from_is_err_and c.from_residual.result c.from_residual.ensures.1 in
    let e = c.in_err-room.ensures in
    rw (p.1, p.2) (settle-none c.args.sys.now _ _ e.refused, fault-still c.in_err-room.field-0.0 _ _ e.refused e.err)

pub note-requires : goal.note-requires
note-requires g c = may-note 0 Settle c.settle.result _ c.settle.ensures refl (omega (arith, c.in_ok-room.ensures.ok))

pub loop-d-init : goal.loop-d-init
loop-d-init g c =
    let lane = g.O.Ops.lane in
    none-seen _ (lane c.room.new.self) _ c.in_ok-room.ensures.stays
    (adds-note 0 Settle c.settle.result _ _ c.settle.ensures refl (by-none _ _ c.in_ok-room.ensures.stays c.requires.none) (omega (arith, c.in_ok-room.ensures.ok)) c.note.ensures.grows c.note.ensures.spare)

pub returns-in_err-room-2 : goal.returns-in_err-room-2
returns-in_err-room-2 g c =
    let p = err_from_is_err_and c.from_residual-in_err-room-2.result c.from_residual-in_err-room-2.ensures.1 in
    let e = c.in_err-room-2.ensures in
    let listed = c.deref-d-items.ensures.value ∙ ap (λ (s : System). s.objects) c.sys.view_is in
    let here = at c.args.sys.now c.deref-d-items.result.now c.loop-d.d-index c.d-item.result listed c.loop-d-test.true c.d-item.is in
    rw (p.1, p.2) (settle-cut c.args.sys.now _ _ _ _ _ _ c.loop-d.invariant here.split e.refused, fault-still c.in_err-room-2.field-0.0 _ _ e.refused e.err)

pub seen-c-requires-clause-object : goal.seen-c-requires-clause-object
seen-c-requires-clause-object g c =
    let listed = c.deref-d-items.ensures.value ∙ ap (λ (s : System). s.objects) c.sys.view_is in
    let here = at c.args.sys.now c.deref-d-items.result.now c.loop-d.d-index c.d-item.result listed c.loop-d-test.true c.d-item.is in
    object-here c.args.sys.now c.d-item.result.priority _ _ _ _ c.loop-d.invariant c.in_ok-room-2.ensures.stays c.requires.of here.object

pub returns-then-from : goal.returns-then-from
returns-then-from g c =
    let lane = g.O.Ops.lane in
    let listed = c.deref-d-items.ensures.value ∙ ap (λ (s : System). s.objects) c.sys.view_is in
    let here = at c.args.sys.now c.deref-d-items.result.now c.loop-d.d-index c.d-item.result listed c.loop-d-test.true c.d-item.is in
    seen-entry _ c.d-item.result.priority c.seen-c.result _ (lane c.loop-d.ops) (lane c.room-in-loop-d.new.self) _ c.requires.none c.loop-d.invariant c.in_ok-room-2.ensures.stays c.seen-c.ensures
    c.args.sys.now _ here.split here.object (omega (arith, c.if-from.true, c.from.ensures, c.from-in-loop-d.ensures, c.from-in-loop-d-2.ensures))

pub loop-d-preserved : goal.loop-d-preserved
loop-d-preserved g c =
    let lane = g.O.Ops.lane in
    let listed = c.deref-d-items.ensures.value ∙ ap (λ (s : System). s.objects) c.sys.view_is in
    let here = at c.args.sys.now c.deref-d-items.result.now c.loop-d.d-index c.d-item.result listed c.loop-d-test.true c.d-item.is in
    rw here.more
    (seen-more _ c.d-item.result.priority c.seen-c.result _ (lane c.loop-d.ops) (lane c.room-in-loop-d.new.self) _ c.requires.none c.loop-d.invariant c.in_ok-room-2.ensures.stays c.seen-c.ensures
    (λ some. omega (arith, some, c.if-from.false, c.from.ensures, c.from-in-loop-d.ensures, c.from-in-loop-d-2.ensures)))

pub returns : goal.returns
returns g c =
    let listed = c.deref-d-items.ensures.value ∙ ap (λ (s : System). s.objects) c.sys.view_is in
    seen-all c.args.sys.now c.loop-d.d-index _ _ c.loop-d.invariant (subst (λ (xs : List ObjectDef). length xs ≤ c.loop-d.d-index) listed c.loop-d-test.false)
