use Rattle.std.proofs.Common.{◌≡◌, ◌∙◌, [], ◌∷◌, length, nat_lt, true, refl, sym, arith, subst}
use Rattle.qp_model.specs.declared.bodies.Entry as model
use Rattle.qp_model.specs.declared.bodies.Body.TheVariants.{Defer, NoDefer}
use Rattle.qp_model.specs.Told.{plain}
use Rattle.qp_calls.specs.LaneView.{AddsTold}
use Rattle.qp_calls.specs.Clauses.{entry_of}
use Rattle.qp_calls.proofs.Noting.{adds-note, may-note, still-by, still-room}
use Rattle.qp_calls.proofs.Keeping.{defer-done, defer-full, is_full, is_open, pushed}
use Rattle.qp_calls.proofs.deferral.defer.Goals as goal

pub note-requires : goal.note-requires
note-requires g c =
    let room = still-room _ _ c.object-o.ensures.stays c.in_ok-room.ensures.ok in
    may-note _ NoDefer c.no_defer.result _ c.no_defer.ensures refl (omega (arith, room))

pub returns-then-is_full : goal.returns-then-is_full
returns-then-is_full g c =
    let lane = g.O.Ops.lane in
    let room = still-room _ _ c.object-o.ensures.stays c.in_ok-room.ensures.ok in
    let by = still-by c.object-o.result _ _ c.object-o.ensures.stays c.object-o.ensures.object in
    defer-full (entry_of c.args.now.now) c.args.list.now _ (lane c.room.new.self) (lane c.object-o.new.ops) (lane c.note.new.self) c.room.ensures.stays c.object-o.ensures.stays
    (adds-note c.object-o.result NoDefer c.no_defer.result _ _ c.no_defer.ensures refl by (omega (arith, room)) c.note.ensures.grows c.note.ensures.spare)
    (is_full _ c.if-is_full.ensures) c.requires.kept

pub note-requires-2 : goal.note-requires-2
note-requires-2 g c =
    let room = still-room _ _ c.object-o.ensures.stays c.in_ok-room.ensures.ok in
    may-note _ (Defer c.stated.result) c.defer.result _ c.defer.ensures refl (omega (arith, room, c.again-e.ensures.spare))

pub returns : goal.returns
returns g c =
    let lane = g.O.Ops.lane in
    let room = still-room _ _ c.object-o.ensures.stays c.in_ok-room.ensures.ok in
    let by = still-by c.object-o.result _ _ c.object-o.ensures.stays c.object-o.ensures.object in
    let space : nat_lt (length c.args.list.now.entries.items) c.args.list.now.entries.capacity ≡ true = is_open _ c.if-is_full.ensures in
    let noted = adds-note c.object-o.result (Defer c.stated.result) c.defer.result _ _ c.defer.ensures refl (by ∙ sym c.again-e.ensures.grows.by) (omega (arith, room, c.again-e.ensures.spare)) c.note-2.ensures.grows c.note-2.ensures.spare in
    defer-done (entry_of c.args.now.now) c.again-e.result c.args.list.now _ _ (lane c.room.new.self) (lane c.object-o.new.ops) (lane c.again-e.new.ops) (lane c.note-2.new.self)
    c.room.ensures.stays c.object-o.ensures.stays c.again-e.ensures
    (subst (λ (e : model.Entry). AddsTold (plain (Defer e) ∷ []) (lane c.again-e.new.ops) (lane c.note-2.new.self)) c.stated.ensures noted)
    space (rw (pushed c.args.list.now.entries.items c.again-e.result c.args.list.now.entries.capacity space) at c.push_back.ensures.items) c.requires.kept
