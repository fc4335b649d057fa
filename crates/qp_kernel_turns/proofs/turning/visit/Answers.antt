use Rattle.std.proofs.Common.{◌+◌, ◌<◌, ◌≤◌, ◌∙◌, arith, ap, length, lit<, refl, subst, sym}
use Rattle.std.specs.Prelude.{IsTrue, get_or}
use Rattle.qp_model.specs.declared.systems.System.{System}
use Rattle.std.proofs.lemmas.Option.{slice_get_read}
use Rattle.std.proofs.lemmas.Result.{err_from_is_err_and}
use Rattle.qp_model.specs.declared.bodies.Body.TheVariants as body
use Rattle.qp_model.specs.Told.{plain}
use Rattle.qp_model.specs.WordLaw.{is_object}
use Rattle.qp_calls.proofs.Noting.{may-note}
use Rattle.qp_kernel_turns.specs.Turning.{stand_of, terms_of}
use Rattle.qp_kernel_turns.proofs.Asking.{asks-kept, asks-none}
use Rattle.qp_kernel_turns.proofs.Counting.{begin-none, taken-begins}
use Rattle.qp_kernel_turns.proofs.Halted.{halts-turn}
use Rattle.qp_kernel_turns.proofs.Lanes.{finds-stop, goes-none, halts-lane, seen-lane, spent-lane, took-asks, took-lane}
use Rattle.qp_kernel_turns.proofs.Ordered.{halts-in_order, passed-in_order, seen-skip, spent-in_order, stopped-seen, took-in_order}
use Rattle.qp_kernel_turns.proofs.Resting.{rests-halted, rests-noted, rests-spent}
use Rattle.qp_kernel_turns.proofs.Staying.{all-wait}
use Rattle.qp_kernel_turns.proofs.Taking.{seen-is-there}
use Rattle.qp_kernel_turns.proofs.Visits.{empty-row, enters-row, fits-stack, found-row, halted-row, is-served, is-there, may-begin, may-stop, seen-empty, seen-goes, skipped, skipped-row, spent-row, spent-stops, spent-told, step-enters, stop-found}
use Rattle.qp_told.proofs.ToldLemmas.{tells-none, tells-one}
use Rattle.qp_kernel_turns.proofs.turning.visit.Goals as goal

pub returns-then-p-floor : goal.returns-then-p-floor
returns-then-p-floor g c =
    let sys = c.args.at.now.sys.now in
    let o = c.index-object.result.now in
    let at = slice_get_read sys.objects (length sys.objects) c.args.place o refl c.requires.place (c.index-object.ensures ∙ ap (λ xs. get_or xs c.args.place o) (ap (λ (y : System). y.objects) c.sys.view_is)) in
    record {
      goes = skipped sys c.requires.sound (terms_of c.args.at.now) _ c.args.floor c.args.place o at c.if-p-floor.true c.requires.knows;
      order = record { order = c.requires.order; none = λ base acting h. h; empty = seen-skip sys c.args.floor c.args.place o (g.W.Ops.lane c.args.world.now) at c.if-p-floor.true c.requires.seen; stays = λ p h. h };
      rests = tt;
      lane = goes-none g.W.World.acts (g.W.Ops.lane c.args.world.now);
      begun = begin-none c.args.kernel.now c.args.objects.now;
      tells = tells-none c.args.kernel.now.steps c.args.gate.now.steps.list;
      asks = asks-none g.W.World.acts c.args.kernel.now (g.W.Ops.lane c.args.world.now);
      rows = λ u row. skipped-row sys c.requires.sound (terms_of c.args.at.now) (stand_of c.args.kernel.now c.args.objects.now (g.W.Ops.lane c.args.world.now)) c.args.floor c.args.place o at c.if-p-floor.true u row;
    }

pub returns-in_err-ready : goal.returns-in_err-ready
returns-in_err-ready g c =
    let k = c.requires.knows in
    let sys = c.args.at.now.sys.now in
    let o = c.index-object.result.now in
    let at = slice_get_read sys.objects (length sys.objects) c.args.place o refl c.requires.place (c.index-object.ensures ∙ ap (λ xs. get_or xs c.args.place o) (ap (λ (y : System). y.objects) c.sys.view_is)) in
    let lane = g.W.Ops.lane in
    let p = err_from_is_err_and c.from_residual.result c.from_residual.ensures.1 in
    rw (p.1, p.2) (record {
      goes =
          halts-turn sys c.requires.sound (terms_of c.args.at.now) k.knows.state (lane c.args.world.now) (lane c.ready.new.ops) c.in_err-ready.field-0.0 k.knows.told k.knows.stands k.knows.now k.at.stack.started (all-wait sys k.knows.state k.at.stack)
          c.in_err-ready.ensures;
      order = halts-in_order g.W.World.acts sys c.args.kernel.now.looks (lane c.args.world.now) (lane c.ready.new.ops) c.in_err-ready.field-0.0 c.in_err-ready.ensures c.requires.order;
      rests = rests-halted sys c.requires.sound (terms_of c.args.at.now) c.args.kernel.now.looks c.args.kernel.now.stack.items c.args.objects.now (lane c.args.world.now) k.knows _ k.at.stack (lane c.ready.new.ops) c.in_err-ready.field-0.0 c.in_err-ready.ensures;
      lane = halts-lane g.W.World.acts (lane c.args.world.now) (lane c.ready.new.ops) c.in_err-ready.field-0.0 c.in_err-ready.ensures;
      begun = begin-none c.args.kernel.now c.args.objects.now;
      tells = tells-none c.args.kernel.now.steps c.args.gate.now.steps.list;
      asks = asks-kept g.W.World.acts c.args.kernel.now c.args.kernel.now (g.W.Ops.lane c.args.world.now) (g.W.Ops.lane c.ready.new.ops) refl refl (halts-lane g.W.World.acts (lane c.args.world.now) (lane c.ready.new.ops) c.in_err-ready.field-0.0 c.in_err-ready.ensures).keeps.asks;
      rows = λ u row. halted-row sys c.requires.sound (terms_of c.args.at.now) (stand_of c.args.kernel.now c.args.objects.now (lane c.args.world.now)) c.args.floor c.args.place o at c.if-p-floor.false c.requires.knows u (lane c.ready.new.ops) c.in_err-ready.field-0.0 row c.in_err-ready.ensures;
    })

pub seen-now-requires-clause-object : goal.seen-now-requires-clause-object
seen-now-requires-clause-object g c =
    let sys = c.args.at.now.sys.now in
    let o = c.index-object.result.now in
    let at = slice_get_read sys.objects (length sys.objects) c.args.place o refl c.requires.place (c.index-object.ensures ∙ ap (λ xs. get_or xs c.args.place o) (ap (λ (y : System). y.objects) c.sys.view_is)) in
    let room = c.in_ok-ready.ensures.roomier in
    subst (λ y. IsTrue (is_object y o.priority)) (sym (ap (λ u. u.sys) room.same ∙ c.requires.knows.knows.lane.of)) (is-there sys c.requires.sound (terms_of c.args.at.now) _ c.args.floor c.args.place o at c.if-p-floor.false c.requires.knows)

pub returns-then-from : goal.returns-then-from
returns-then-from g c =
    let sys = c.args.at.now.sys.now in
    let o = c.index-object.result.now in
    let at = slice_get_read sys.objects (length sys.objects) c.args.place o refl c.requires.place (c.index-object.ensures ∙ ap (λ xs. get_or xs c.args.place o) (ap (λ (y : System). y.objects) c.sys.view_is)) in
    let lane = g.W.Ops.lane in
    let counts = c.seen-now.result in
    let room = c.in_ok-ready.ensures.roomier in
    let none : counts.f + counts.l ≤ counts.m = omega (arith, c.from.ensures, c.from-2.ensures, c.from-3.ensures, c.if-from.true) in
    let served = c.seen-now.ensures.0.grows.serves o.priority ∙ ap (λ u. u.serves o.priority) room.same ∙ is-served sys c.requires.sound (terms_of c.args.at.now) _ c.args.floor c.args.place o at c.if-p-floor.false c.requires.knows in
    record {
      goes = seen-empty sys c.requires.sound (terms_of c.args.at.now) _ c.args.floor c.args.place o at c.if-p-floor.false c.requires.knows (lane c.ready.new.ops) (lane c.seen-now.new.self) counts room c.seen-now.ensures none;
      order = passed-in_order g.W.World.acts sys c.args.kernel.now.looks o.priority counts (lane c.args.world.now) (lane c.ready.new.ops) (lane c.seen-now.new.self) room c.seen-now.ensures c.requires.order c.args.floor c.args.place o (stand_of c.args.kernel.now c.args.objects.now (lane c.args.world.now)) refl at served none refl refl c.requires.seen;
      rests = tt;
      lane = seen-lane g.W.World.acts o.priority counts (lane c.args.world.now) (lane c.ready.new.ops) (lane c.seen-now.new.self) room c.seen-now.ensures;
      begun = begin-none c.args.kernel.now c.args.objects.now;
      tells = tells-none c.args.kernel.now.steps c.args.gate.now.steps.list;
      asks = asks-kept g.W.World.acts c.args.kernel.now c.args.kernel.now (g.W.Ops.lane c.args.world.now) (g.W.Ops.lane c.seen-now.new.self) refl refl (seen-lane g.W.World.acts o.priority counts (lane c.args.world.now) (lane c.ready.new.ops) (lane c.seen-now.new.self) room c.seen-now.ensures).keeps.asks;
      rows = λ u row. empty-row sys c.requires.sound (terms_of c.args.at.now) (stand_of c.args.kernel.now c.args.objects.now (lane c.args.world.now)) c.args.floor c.args.place o at c.if-p-floor.false c.requires.knows (lane c.ready.new.ops) (lane c.seen-now.new.self) counts room c.seen-now.ensures none u row;
    }

pub note-requires : goal.note-requires
note-requires g c =
    let sys = c.args.at.now.sys.now in
    let o = c.index-object.result.now in
    let at = slice_get_read sys.objects (length sys.objects) c.args.place o refl c.requires.place (c.index-object.ensures ∙ ap (λ xs. get_or xs c.args.place o) (ap (λ (y : System). y.objects) c.sys.view_is)) in
    let lane = g.W.Ops.lane in
    let counts = c.seen-now.result in
    let room = c.in_ok-ready.ensures.roomier in
    let spare = c.in_ok-ready.ensures.spare in
    let less = c.seen-now.ensures.0.spare in
    may-note o.priority body.Spent c.spent.result (lane c.seen-now.new.self) c.spent.ensures refl (omega (arith, spare, less))

pub stop-requires : goal.stop-requires
stop-requires g c =
    let sys = c.args.at.now.sys.now in
    let o = c.index-object.result.now in
    let at = slice_get_read sys.objects (length sys.objects) c.args.place o refl c.requires.place (c.index-object.ensures ∙ ap (λ xs. get_or xs c.args.place o) (ap (λ (y : System). y.objects) c.sys.view_is)) in
    let lane = g.W.Ops.lane in
    let counts = c.seen-now.result in
    let room = c.in_ok-ready.ensures.roomier in
    let some : counts.m < counts.f + counts.l = omega (arith, c.from.ensures, c.from-2.ensures, c.from-3.ensures, c.if-from.false) in
    may-stop sys c.requires.sound (terms_of c.args.at.now) _ c.args.floor c.args.place o at c.if-p-floor.false c.requires.knows (lane c.ready.new.ops) (lane c.seen-now.new.self) counts room c.seen-now.ensures some c.spent.result (lane c.note.new.self) c.spent.ensures c.note.ensures.grows

pub returns-then-taken-at : goal.returns-then-taken-at
returns-then-taken-at g c =
    let sys = c.args.at.now.sys.now in
    let o = c.index-object.result.now in
    let at = slice_get_read sys.objects (length sys.objects) c.args.place o refl c.requires.place (c.index-object.ensures ∙ ap (λ xs. get_or xs c.args.place o) (ap (λ (y : System). y.objects) c.sys.view_is)) in
    let lane = g.W.Ops.lane in
    let counts = c.seen-now.result in
    let room = c.in_ok-ready.ensures.roomier in
    let some : counts.m < counts.f + counts.l = omega (arith, c.from.ensures, c.from-2.ensures, c.from-3.ensures, c.if-from.false) in
    record {
      goes = spent-stops sys c.requires.sound (terms_of c.args.at.now) _ c.args.floor c.args.place o at c.if-p-floor.false c.requires.knows (lane c.ready.new.ops) (lane c.seen-now.new.self) counts room c.seen-now.ensures some c.taken.result c.spent.result (lane c.note.new.self) (lane c.stop.new.self) c.taken.ensures c.if-taken-at.true c.spent.ensures c.note.ensures.grows c.stop.ensures;
      order = spent-in_order g.W.World.acts sys c.args.kernel.now.looks o.priority counts (lane c.args.world.now) (lane c.ready.new.ops) (lane c.seen-now.new.self) room c.seen-now.ensures c.requires.order c.spent.result (lane c.note.new.self) (lane c.stop.new.self) c.spent.ensures c.note.ensures.grows c.stop.ensures;
      rests = rests-spent sys c.requires.sound (terms_of c.args.at.now) c.args.kernel.now.looks c.args.kernel.now.stack.items c.args.objects.now (lane c.args.world.now) c.requires.knows.knows _ c.requires.knows.at.stack (lane c.stop.new.self) o.priority (plain (body.Seen o.priority counts.f counts.l counts.m))
          (spent-told sys c.requires.sound (terms_of c.args.at.now) _ c.args.floor c.args.place o at c.if-p-floor.false c.requires.knows (lane c.ready.new.ops) (lane c.seen-now.new.self) counts room c.seen-now.ensures some c.spent.result (lane c.note.new.self) (lane c.stop.new.self) c.spent.ensures c.note.ensures.grows c.stop.ensures);
      lane = spent-lane g.W.World.acts o.priority counts (lane c.args.world.now) (lane c.ready.new.ops) (lane c.seen-now.new.self) room c.seen-now.ensures c.spent.result (lane c.note.new.self) (lane c.stop.new.self) c.spent.ensures c.note.ensures.grows c.stop.ensures;
      begun = begin-none c.args.kernel.now c.args.objects.now;
      tells = tells-none c.args.kernel.now.steps c.args.gate.now.steps.list;
      asks = asks-kept g.W.World.acts c.args.kernel.now c.args.kernel.now (g.W.Ops.lane c.args.world.now) (g.W.Ops.lane c.stop.new.self) refl refl (spent-lane g.W.World.acts o.priority counts (lane c.args.world.now) (lane c.ready.new.ops) (lane c.seen-now.new.self) room c.seen-now.ensures c.spent.result (lane c.note.new.self) (lane c.stop.new.self) c.spent.ensures c.note.ensures.grows c.stop.ensures).keeps.asks;
      rows = λ u row. spent-row sys c.requires.sound (terms_of c.args.at.now) (stand_of c.args.kernel.now c.args.objects.now (lane c.args.world.now)) c.args.floor c.args.place o at c.if-p-floor.false c.requires.knows (lane c.ready.new.ops) (lane c.seen-now.new.self) counts room c.seen-now.ensures some c.taken.result c.spent.result (lane c.note.new.self) (lane c.stop.new.self) c.taken.ensures c.if-taken-at.true c.spent.ensures c.note.ensures.grows c.stop.ensures u row;
    }

pub returns-in-Some : goal.returns-in-Some
returns-in-Some g c =
    let sys = c.args.at.now.sys.now in
    let o = c.index-object.result.now in
    let at = slice_get_read sys.objects (length sys.objects) c.args.place o refl c.requires.place (c.index-object.ensures ∙ ap (λ xs. get_or xs c.args.place o) (ap (λ (y : System). y.objects) c.sys.view_is)) in
    let lane = g.W.Ops.lane in
    let counts = c.seen-now.result in
    let room = c.in_ok-ready.ensures.roomier in
    let some : counts.m < counts.f + counts.l = omega (arith, c.from.ensures, c.from-2.ensures, c.from-3.ensures, c.if-from.false) in
    record {
      goes = stop-found sys c.requires.sound (terms_of c.args.at.now) _ c.args.floor c.args.place o at c.if-p-floor.false c.requires.knows (lane c.ready.new.ops) (lane c.seen-now.new.self) counts room c.seen-now.ensures some c.in-Some.field-0 (lane c.stopped.new.self) c.in-Some.ensures.0;
      order = stopped-seen g.W.World.acts sys c.args.kernel.now.looks o.priority counts (lane c.args.world.now) (lane c.ready.new.ops) (lane c.seen-now.new.self) room c.seen-now.ensures c.requires.order c.in-Some.field-0 (lane c.stopped.new.self) c.in-Some.ensures.0;
      rests = rests-noted sys c.requires.sound (terms_of c.args.at.now) c.args.kernel.now.looks c.args.kernel.now.stack.items c.args.objects.now (lane c.args.world.now) c.requires.knows.knows _ c.requires.knows.at.stack c.args.kernel.now.looks (lane c.stopped.new.self) (plain (body.Seen o.priority counts.f counts.l counts.m))
          (ap (λ u. u.told) c.in-Some.ensures.0 ∙ (seen-goes o.priority counts (lane c.args.world.now) (lane c.ready.new.ops) (lane c.seen-now.new.self) room c.seen-now.ensures c.requires.knows.knows.lane.spills).told);
      lane = finds-stop g.W.World.acts c.in-Some.field-0 (lane c.args.world.now) (lane c.seen-now.new.self) (lane c.stopped.new.self) (seen-lane g.W.World.acts o.priority counts (lane c.args.world.now) (lane c.ready.new.ops) (lane c.seen-now.new.self) room c.seen-now.ensures) c.in-Some.ensures.0;
      begun = begin-none c.args.kernel.now c.args.objects.now;
      tells = tells-none c.args.kernel.now.steps c.args.gate.now.steps.list;
      asks = asks-kept g.W.World.acts c.args.kernel.now c.args.kernel.now (g.W.Ops.lane c.args.world.now) (g.W.Ops.lane c.stopped.new.self) refl refl (finds-stop g.W.World.acts c.in-Some.field-0 (lane c.args.world.now) (lane c.seen-now.new.self) (lane c.stopped.new.self) (seen-lane g.W.World.acts o.priority counts (lane c.args.world.now) (lane c.ready.new.ops) (lane c.seen-now.new.self) room c.seen-now.ensures) c.in-Some.ensures.0).keeps.asks;
      rows = λ u row. found-row sys c.requires.sound (terms_of c.args.at.now) (stand_of c.args.kernel.now c.args.objects.now (lane c.args.world.now)) c.args.floor c.args.place o at c.if-p-floor.false c.requires.knows (lane c.ready.new.ops) (lane c.seen-now.new.self) counts room c.seen-now.ensures some c.in-Some.field-0 (lane c.stopped.new.self) c.in-Some.ensures.0 u row;
    }

pub take-requires-clause-object : goal.take-requires-clause-object
take-requires-clause-object g c =
    let sys = c.args.at.now.sys.now in
    let o = c.index-object.result.now in
    let at = slice_get_read sys.objects (length sys.objects) c.args.place o refl c.requires.place (c.index-object.ensures ∙ ap (λ xs. get_or xs c.args.place o) (ap (λ (y : System). y.objects) c.sys.view_is)) in
    let lane = g.W.Ops.lane in
    let counts = c.seen-now.result in
    let room = c.in_ok-ready.ensures.roomier in
    let same = ap (λ u. u.sys) c.in_default.ensures.0 ∙ c.seen-now.ensures.0.grows.sys ∙ ap (λ u. u.sys) room.same ∙ c.requires.knows.knows.lane.of in
    subst (λ y. IsTrue (is_object y o.priority)) (sym same) (is-there sys c.requires.sound (terms_of c.args.at.now) _ c.args.floor c.args.place o at c.if-p-floor.false c.requires.knows)

pub begin-requires : goal.begin-requires
begin-requires g c =
    let sys = c.args.at.now.sys.now in
    let o = c.index-object.result.now in
    let at = slice_get_read sys.objects (length sys.objects) c.args.place o refl c.requires.place (c.index-object.ensures ∙ ap (λ xs. get_or xs c.args.place o) (ap (λ (y : System). y.objects) c.sys.view_is)) in
    let lane = g.W.Ops.lane in
    let counts = c.seen-now.result in
    let room = c.in_ok-ready.ensures.roomier in
    let some : counts.m < counts.f + counts.l = omega (arith, c.from.ensures, c.from-2.ensures, c.from-3.ensures, c.if-from.false) in
    may-begin sys c.requires.sound (terms_of c.args.at.now) _ c.args.floor c.args.place o at c.if-p-floor.false c.requires.knows (lane c.ready.new.ops) (lane c.seen-now.new.self) counts room c.seen-now.ensures some c.taken.result c.taken.ensures c.if-taken-at.false c.requires.few

pub push-requires : goal.push-requires
push-requires g c =
    let sys = c.args.at.now.sys.now in
    let o = c.index-object.result.now in
    let at = slice_get_read sys.objects (length sys.objects) c.args.place o refl c.requires.place (c.index-object.ensures ∙ ap (λ xs. get_or xs c.args.place o) (ap (λ (y : System). y.objects) c.sys.view_is)) in
    (lit< tt, fits-stack sys c.requires.sound (terms_of c.args.at.now) _ c.args.floor c.args.place o at c.if-p-floor.false c.requires.knows)

pub returns : goal.returns
returns g c =
    let sys = c.args.at.now.sys.now in
    let o = c.index-object.result.now in
    let at = slice_get_read sys.objects (length sys.objects) c.args.place o refl c.requires.place (c.index-object.ensures ∙ ap (λ xs. get_or xs c.args.place o) (ap (λ (y : System). y.objects) c.sys.view_is)) in
    let lane = g.W.Ops.lane in
    let counts = c.seen-now.result in
    let room = c.in_ok-ready.ensures.roomier in
    let some : counts.m < counts.f + counts.l = omega (arith, c.from.ensures, c.from-2.ensures, c.from-3.ensures, c.if-from.false) in
    record {
      goes = step-enters sys c.requires.sound (terms_of c.args.at.now) _ c.args.floor c.args.place o at c.if-p-floor.false c.requires.knows (lane c.ready.new.ops) (lane c.seen-now.new.self) counts room c.seen-now.ensures some c.taken.result (lane c.stopped.new.self) (lane c.take.new.self) c.in-Taken.e c.begin.new.self c.push.new.self.items c.taken.ensures c.if-taken-at.false c.in_default.ensures.0 c.in-Taken.ensures c.begin.ensures c.push.ensures.items;
      order = took-in_order g.W.World.acts sys c.args.kernel.now.looks o.priority counts (lane c.args.world.now) (lane c.ready.new.ops) (lane c.seen-now.new.self) room c.seen-now.ensures c.requires.order c.in-Taken.e (lane c.stopped.new.self) (lane c.take.new.self) c.in_default.ensures.0 c.in-Taken.ensures;
      rests = tt;
      lane = took-lane g.W.World.acts o.priority counts (lane c.args.world.now) (lane c.ready.new.ops) (lane c.seen-now.new.self) room c.seen-now.ensures c.in-Taken.e (lane c.stopped.new.self) (lane c.take.new.self) c.in_default.ensures.0 c.in-Taken.ensures;
      begun = record { steps = c.one_more-kernel.ensures; taken = taken-begins o.priority c.in-Taken.e c.args.objects.now c.begin.new.self c.begin.ensures };
      tells = tells-one c.args.kernel.now.steps c.one_more-kernel.result c.args.gate.now.steps.list c.tells.new.self.steps.list c.one_more-kernel.ensures c.tells.ensures;
      asks = λ apart. let more = took-asks g.W.World.acts o.priority counts (lane c.args.world.now) (lane c.ready.new.ops) (lane c.seen-now.new.self) room c.seen-now.ensures c.in-Taken.e (lane c.stopped.new.self) (lane c.take.new.self) c.in_default.ensures.0 c.in-Taken.ensures in let one = c.one_more-kernel.ensures in omega (arith, more, one);
      rows = λ u row. enters-row sys c.requires.sound (terms_of c.args.at.now) (stand_of c.args.kernel.now c.args.objects.now (lane c.args.world.now)) c.args.floor c.args.place o at c.if-p-floor.false c.requires.knows (lane c.ready.new.ops) (lane c.seen-now.new.self) counts room c.seen-now.ensures some c.taken.result (lane c.stopped.new.self) (lane c.take.new.self) c.in-Taken.e c.begin.new.self c.taken.ensures c.if-taken-at.false c.in_default.ensures.0 c.in-Taken.ensures c.begin.ensures u row;
    }

pub unreachable-requires : goal.unreachable-requires
unreachable-requires g c =
    let sys = c.args.at.now.sys.now in
    let o = c.index-object.result.now in
    let at = slice_get_read sys.objects (length sys.objects) c.args.place o refl c.requires.place (c.index-object.ensures ∙ ap (λ xs. get_or xs c.args.place o) (ap (λ (y : System). y.objects) c.sys.view_is)) in
    let lane = g.W.Ops.lane in
    let counts = c.seen-now.result in
    let room = c.in_ok-ready.ensures.roomier in
    let some : counts.m < counts.f + counts.l = omega (arith, c.from.ensures, c.from-2.ensures, c.from-3.ensures, c.if-from.false) in
    let served = c.seen-now.ensures.0.grows.serves o.priority ∙ ap (λ u. u.serves o.priority) room.same ∙ is-served sys c.requires.sound (terms_of c.args.at.now) _ c.args.floor c.args.place o at c.if-p-floor.false c.requires.knows in
    seen-is-there o.priority _ _ _ counts (lane c.ready.new.ops) (lane c.seen-now.new.self) (lane c.stopped.new.self) (lane c.take.new.self) c.seen-now.ensures some served c.in_default.ensures.0 c.in-Empty.ensures
