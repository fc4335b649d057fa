use Rattle.std.proofs.Common.{◌≡◌, ◌+◌, ◌≤◌, true, false, Bool, List, subst, sym, arith, get_or, None}
use Rattle.std.specs.List.{list_all}
use Rattle.qp_model.specs.declared.record.Rec.{Rec}
use Rattle.qp_model.specs.History.{lane_items}
use Rattle.qp_calls.specs.LaneView.{NotShown}
use Rattle.qp_calls_log.specs.Lane.{last_nil_in, nil_of, spill_place}
use Rattle.qp_calls.specs.LaneLaws.{is_caused_in}
use Rattle.qp_calls_log.proofs.LogLemmas.{regular, spills, length-kinds}
use Rattle.qp_calls_log.proofs.log.Log.make_room.Goals as goal
use Rattle.qp_model.proofs.RecordLemmas.{lane-length}

place-le : (b : Bool) → spill_place b ≤ 1
place-le true = omega arith
place-le false = omega arith

pub invariant_of-self-2 : goal.invariant_of-self-2
invariant_of-self-2 c =
    let s = c.args.self.now in
    let is = c.in_ok-make_more.ensures.items in
    let all = length-kinds (lane_items s.recs.items) in
    let long = lane-length s.recs.items in
    let place = place-le s.spilled in
    record {
      roomy = omega (arith, place, c.in_ok-make_more.ensures.ok, c.in_ok-make_more.ensures.len);
      few = subst (λ (z : List Rec). regular (lane_items z) + 8 ≤ 1000000) (sym is) (omega (arith, all, long, c.requires.free));
      spills = subst (λ (z : List Rec). spills (lane_items z) + spill_place s.spilled ≡ 1) (sym is) s.spills;
      seats = s.seats;
      nils_are = λ a lt. subst (λ (z : List Rec). nil_of (get_or s.nils.items a None) ≡ last_nil_in a NotShown (lane_items z)) (sym is) (s.nils_are a lt);
      causes = subst (λ (z : List Rec). list_all (is_caused_in (lane_items z)) s.stops.list ≡ true) (sym is) s.causes;
    }
