use Rattle.std.proofs.Common.{refl, subst, arith, [], ◌∷◌}
use mir.Val.{of_z, to_z}
use Rattle.std.proofs.lemmas.Int.{to_z-of_z}
use Rattle.qp_calls.specs.LaneView.{Grows}
use Rattle.qp_model.specs.declared.bodies.Body.TheVariants.{Say}
use Rattle.qp_model.specs.Told.{plain}
use Rattle.std.specs.Int.{w64, cast_unsigned}
use Rattle.qp_calls.proofs.Growing.{grows-room}
use Rattle.qp_calls.proofs.Noting.{adds-note, may-note}
use Rattle.qp_dispatch.proofs.Singles.{by-roomier}
use Rattle.qp_dispatch.proofs.act.say.Goals as goal

pub note-requires : goal.note-requires
note-requires g c = may-note c.args.me _ c.say.result _ c.say.ensures refl (omega (arith, c.in_ok-room.ensures.ok))

pub returns-clause-ok : goal.returns-clause-ok
returns-clause-ok g c =
    let lane = g.O.Ops.lane in
    let noted =
    adds-note c.args.me _ c.say.result _ _ c.say.ensures refl (by-roomier c.args.me (lane c.args.ops.now) (lane c.room.new.self) c.room.ensures.stays c.requires.mine) (omega (arith, c.in_ok-room.ensures.ok))
    c.note.ensures.grows c.note.ensures.spare in
    let value = c.args.value in
    let grown = grows-room (plain (Say (cast_unsigned w64 (to_z w64 (of_z w64 value)))) ∷ []) (lane c.args.ops.now) (lane c.room.new.self) (lane c.note.new.self) c.room.ensures.stays noted.grows in
    subst (λ z. Grows (plain (Say (cast_unsigned w64 z)) ∷ []) (lane c.args.ops.now) (lane c.note.new.self)) (to_z-of_z w64 value c.ranges.value) grown
