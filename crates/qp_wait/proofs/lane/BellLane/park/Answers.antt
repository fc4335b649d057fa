use Rattle.std.proofs.Common.{ap, subst, true, ◌≡◌}
use Rattle.qp_wait_rings.specs.Handed.{lane_view}
use Rattle.qp_wait_rings.specs.Lane.{ringing_view}
use Rattle.qp_wait.specs.Parked.{HasParked, is_park_place, parked_object}
use Rattle.qp_wait.proofs.Parking.{parked-again}
use Rattle.qp_wait.proofs.lane.BellLane.park.Goals as goal

pub invariant_of-self : goal.invariant_of-self
invariant_of-self g c =
    let l = c.args.self.now in
    let v = ringing_view l.ringing in
    let p = c.in-Some.perch in
    record {
      parked = parked-again l.farewells.cords.items p c.park.new.self v (ringing_view c.forget.new.self) c.args.place c.park.result (ap lane_view c.forget.ensures.lane)
          (subst (λ q. HasParked l.farewells.cords.items q v) c.in-Some.is l.parked) (subst (λ q. is_park_place (parked_object q) v.told c.args.place ≡ true) c.in-Some.is c.requires.look)
          c.park.ensures.object c.park.ensures.parked c.park.ensures.refused;
    }
