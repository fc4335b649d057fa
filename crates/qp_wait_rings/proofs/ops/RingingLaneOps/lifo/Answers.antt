use Rattle.std.proofs.Common.{ap, arith, length, subst, sym, ◌∙◌, ◌+◌, IsTrue}
use Rattle.qp_shared.specs.Lane.{lane_view}
use Rattle.qp_shared.specs.LaneLaws.{keeps-limit}
use Rattle.qp_model.specs.WordLaw.{is_object}
use Rattle.qp_calls.specs.Clauses.{ClaimsFront}
use Rattle.qp_wait_rings.specs.Cords.{SettlesClaim, has_cord}
use Rattle.qp_wait_rings.specs.Rung.{HasRung}
use Rattle.qp_wait_rings.proofs.CordLemmas.{cord-there, few-claims, few-refusals, front-settled, settled-added, settled-long, settled-taken, whole}
use Rattle.qp_wait_rings.proofs.ops.RingingLaneOps.lifo.Goals as goal

pub open_one-requires-clause-few : goal.open_one-requires-clause-few
open_one-requires-clause-few g c =
    let l = c.args.self.now in
    let most = few-claims (lane_view l.lane) (keeps-limit l.lane) in
    let room = c.requires.room in
    let is = l.rung.opened_is in
    omega (arith, most, room, is)

pub settle-requires-clause-there : goal.settle-requires-clause-there
settle-requires-clause-there g c =
    let l = c.args.self.now in
    ap (λ cs. has_cord c.object_of-me.result cs) c.as_mut_slice.ensures.value ∙ cord-there c.object_of-me.result l.cords.items (lane_view l.lane).sys l.rung.objects (subst (λ a. IsTrue (is_object (lane_view l.lane).sys a)) (sym c.object_of-me.ensures.object) c.requires.object)

pub settle-requires-clause-few : goal.settle-requires-clause-few
settle-requires-clause-few g c =
    let l = c.args.self.now in
    let most = few-refusals (lane_view l.lane) (keeps-limit l.lane) in
    let room = c.requires.room in
    let is = l.rung.refused_is in
    omega (arith, most, room, is)

pub invariant_of-self : goal.invariant_of-self
invariant_of-self g c =
    let l = c.args.self.now in
    record {
      own = c.settle.ensures.own ∙ c.open_one.ensures.own ∙ l.own;
      some = l.some;
      added = settled-added c.object_of-me.result c.as_mut_slice.result.now c.settle.new.cords l.refused c.settle.new.refused c.open_one.new.seat.me.0 c.settle.new.seat.me.0 c.lifo-claim.result c.settle.ensures.settles ∙ ap (λ m. m.added) c.open_one.ensures.added ∙ ap (λ n. n + 1) l.added ∙ sym c.open_one.ensures.opened;
      taken = settled-taken c.object_of-me.result c.as_mut_slice.result.now c.settle.new.cords l.refused c.settle.new.refused c.open_one.new.seat.me.0 c.settle.new.seat.me.0 c.lifo-claim.result (ap (λ m. m.taken) c.open_one.ensures.added ∙ l.taken) c.settle.ensures.settles;
      rung =
          let long = settled-long c.object_of-me.result c.as_mut_slice.result.now c.settle.new.cords l.refused c.settle.new.refused c.open_one.new.seat.me.0 c.settle.new.seat.me.0 c.lifo-claim.result c.settle.ensures.settles ∙ ap length c.as_mut_slice.ensures.value in
          let len = sym c.as_mut_slice.ensures.len ∙ ap length c.as_mut_slice.ensures.value in
          subst (λ cs. HasRung c.open_one.new.opened c.settle.new.refused cs (lane_view c.lifo-claim.new.self)) (sym (whole l.cords.len c.settle.new.cords l.cords.items len long))
          (front-settled l.opened l.refused l.cords.items (lane_view l.lane) (lane_view c.lifo-claim.new.self) l.rung (keeps-limit l.lane) c.requires.room c.open_one.new.opened c.open_one.ensures.opened
          c.settle.new.cords c.settle.new.refused c.open_one.new.seat.me.0 c.settle.new.seat.me.0 c.object_of-me.result c.args.e c.lifo-claim.result c.object_of-me.ensures.object
          (subst (λ u. ClaimsFront c.args.e u (lane_view c.lifo-claim.new.self) c.lifo-claim.result) c.object_of-me.ensures.stays c.lifo-claim.ensures.claims)
          (subst (λ cs. SettlesClaim c.object_of-me.result cs c.settle.new.cords l.refused c.settle.new.refused c.open_one.new.seat.me.0 c.settle.new.seat.me.0 c.lifo-claim.result) c.as_mut_slice.ensures.value c.settle.ensures.settles));
    }
