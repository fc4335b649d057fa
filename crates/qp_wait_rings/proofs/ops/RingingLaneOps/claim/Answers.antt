use Rattle.std.proofs.Common.{ap, arith, length, subst, sym, ◌∙◌, ◌+◌}
use Rattle.qp_shared.specs.Lane.{lane_view}
use Rattle.qp_shared.specs.LaneLaws.{keeps-limit}
use Rattle.qp_wait_rings.specs.Cords.{SettlesClaim, has_cord}
use Rattle.qp_wait_rings.specs.Rung.{HasRung}
use Rattle.qp_wait_rings.proofs.CordLemmas.{cord-there, few-claims, few-refusals, claim-settled, settled-added, settled-long, settled-taken, whole}
use Rattle.qp_wait_rings.proofs.ops.RingingLaneOps.claim.Goals as goal

pub open_one-requires-clause-few : goal.open_one-requires-clause-few
open_one-requires-clause-few g c =
    let l = c.args.self.now in
    let most = few-claims (lane_view l.lane) (keeps-limit l.lane) in
    let room = c.requires.room in
    let is = l.rung.opened_is in
    omega (arith, most, room, is)

pub settle-requires-clause-there : goal.settle-requires-clause-there
settle-requires-clause-there g c = let l = c.args.self.now in ap (λ cs. has_cord c.args.to cs) c.as_mut_slice.ensures.value ∙ cord-there c.args.to l.cords.items (lane_view l.lane).sys l.rung.objects c.requires.object

pub settle-requires-clause-few : goal.settle-requires-clause-few
settle-requires-clause-few g c =
    let l = c.args.self.now in
    let most = few-refusals (lane_view l.lane) (keeps-limit l.lane) in
    let room = c.requires.room in
    let is = l.rung.refused_is in
    omega (arith, most, room, is)

pub invariant_of-self : goal.invariant_of-self
invariant_of-self g c =
    let l = c.args.self.now in
    record {
      own = c.settle.ensures.own ∙ c.open_one.ensures.own ∙ l.own;
      some = l.some;
      added = settled-added c.args.to c.as_mut_slice.result.now c.settle.new.cords l.refused c.settle.new.refused c.open_one.new.seat.me.0 c.settle.new.seat.me.0 c.claim-claim.result c.settle.ensures.settles ∙ ap (λ m. m.added) c.open_one.ensures.added ∙ ap (λ n. n + 1) l.added ∙ sym c.open_one.ensures.opened;
      taken = settled-taken c.args.to c.as_mut_slice.result.now c.settle.new.cords l.refused c.settle.new.refused c.open_one.new.seat.me.0 c.settle.new.seat.me.0 c.claim-claim.result (ap (λ m. m.taken) c.open_one.ensures.added ∙ l.taken) c.settle.ensures.settles;
      rung =
          let long = settled-long c.args.to c.as_mut_slice.result.now c.settle.new.cords l.refused c.settle.new.refused c.open_one.new.seat.me.0 c.settle.new.seat.me.0 c.claim-claim.result c.settle.ensures.settles ∙ ap length c.as_mut_slice.ensures.value in
          let len = sym c.as_mut_slice.ensures.len ∙ ap length c.as_mut_slice.ensures.value in
          subst (λ cs. HasRung c.open_one.new.opened c.settle.new.refused cs (lane_view c.claim-claim.new.self)) (sym (whole l.cords.len c.settle.new.cords l.cords.items len long))
          (claim-settled l.opened l.refused l.cords.items (lane_view l.lane) (lane_view c.claim-claim.new.self) l.rung (keeps-limit l.lane) c.requires.room c.open_one.new.opened c.open_one.ensures.opened
          c.settle.new.cords c.settle.new.refused c.open_one.new.seat.me.0 c.settle.new.seat.me.0 c.args.to c.args.e c.args.margin c.claim-claim.result c.claim-claim.ensures.claims
          (subst (λ cs. SettlesClaim c.args.to cs c.settle.new.cords l.refused c.settle.new.refused c.open_one.new.seat.me.0 c.settle.new.seat.me.0 c.claim-claim.result) c.as_mut_slice.ensures.value c.settle.ensures.settles));
    }
