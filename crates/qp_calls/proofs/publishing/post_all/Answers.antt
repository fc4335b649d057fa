use Rattle.std.proofs.Common.{◌≡◌, refl, arith}
use Rattle.std.proofs.lemmas.Result.{err_from_is_err_and}
use Rattle.qp_calls.specs.Clauses.{entry_of}
use Rattle.qp_calls.proofs.Flushing.{fault-still}
use Rattle.qp_calls.proofs.Sending.{after-post, fixed-whole, kept-left, released-whole, some-assert, some-cut, some-more, some-none}
use Rattle.qp_calls.proofs.publishing.post_all.Goals as goal

pub loop-left-init : goal.loop-left-init
loop-left-init g c = record { stands = c.requires.stands; some = some-none (entry_of c.args.entry) c.args.all _ }

pub loop-left-preserved : goal.loop-left-preserved
loop-left-preserved g c =
    let lane = g.O.Ops.lane in
    record {
      stands = after-post c.args.entry c.highest-to.result.0 c.in_default.field-0 (lane c.loop-left.ops) (lane c.room.new.self) (lane c.post_one.new.ops) c.loop-left.invariant.stands c.room.ensures.stays
          c.in_default.ensures;
      some =
          some-more (entry_of c.args.entry) c.args.all c.loop-left.left c.highest-to.result.0 c.highest-to.result.1 c.in_default.field-0 _ (lane c.loop-left.ops) (lane c.room.new.self) (lane c.post_one.new.ops)
          c.loop-left.invariant.some c.room.ensures.stays c.highest-to.ensures.first c.in_default.ensures;
    }

pub returns-in-Assert : goal.returns-in-Assert
returns-in-Assert g c =
    some-assert (entry_of c.args.entry) c.args.all c.loop-left.left c.highest-to.result.0 c.highest-to.result.1 c.in-Assert.code _ (g.O.Ops.lane c.loop-left.ops) (g.O.Ops.lane c.room.new.self) _
    c.loop-left.invariant.some c.room.ensures.stays c.highest-to.ensures.first c.in-Assert.ensures

pub returns-in_err-room : goal.returns-in_err-room
returns-in_err-room g c =
    let p = err_from_is_err_and c.from_residual.result c.from_residual.ensures.1 in
    let e = c.in_err-room.ensures in
    rw (p.1, p.2) (
      some-cut (entry_of c.args.entry) c.args.all c.loop-left.left c.highest-to.result.0 c.highest-to.result.1 _ _ _ c.loop-left.invariant.some e.refused c.highest-to.ensures.first,
      fault-still c.in_err-room.field-0.0 _ _ e.refused e.err,
    )

pub returns-in_err-room-in-Pool : goal.returns-in_err-room-in-Pool
returns-in_err-room-in-Pool g c =
    let p = err_from_is_err_and c.from_residual-in_err-room-in-Pool.result c.from_residual-in_err-room-in-Pool.ensures.1 in
    let e = c.in_err-room-in-Pool.ensures in
    let none : c.loop-left.left ≡ 0 = omega (arith, c.loop-left-test.false) in
    rw (p.1, p.2) (
      kept-left c.args.entry c.in-Pool.h c.args.all c.loop-left.left _ _ _ c.in-Pool.is c.loop-left.invariant.stands c.loop-left.invariant.some none e.refused,
      fault-still c.in_err-room-in-Pool.field-0.0 _ _ e.refused e.err,
    )

pub returns-in_ok-room-in-Pool : goal.returns-in_ok-room-in-Pool
returns-in_ok-room-in-Pool g c =
    let none : c.loop-left.left ≡ 0 = omega (arith, c.loop-left-test.false) in (
      refl,
      released-whole c.args.entry c.in-Pool.h c.args.all c.loop-left.left _ (g.O.Ops.lane c.loop-left.ops) (g.O.Ops.lane c.room-in-Pool.new.self) _ c.in-Pool.is c.loop-left.invariant.some none
          c.in_ok-room-in-Pool.ensures.stays c.release.ensures.released,
    )

pub returns-in-Static : goal.returns-in-Static
returns-in-Static g c =
    let none : c.loop-left.left ≡ 0 = omega (arith, c.loop-left-test.false) in
    (refl, fixed-whole c.args.entry c.in-Static.field-0 c.args.all c.loop-left.left _ _ c.in-Static.is c.loop-left.invariant.some none)
