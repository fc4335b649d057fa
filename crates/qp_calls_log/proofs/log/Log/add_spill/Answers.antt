use Rattle.std.proofs.Common.{◌≡◌, ◌+◌, ◌≤◌, true, List, subst, sym, ◌∙◌, ap, arith, get_or, None}
use Rattle.std.specs.List.{list_all}
use Rattle.qp_model.specs.declared.record.Rec.{Rec}
use Rattle.qp_model.specs.History.{lane_items}
use Rattle.qp_calls.specs.LaneView.{NotShown}
use Rattle.qp_calls_log.specs.Lane.{last_nil_in, nil_of, spill_place}
use Rattle.qp_calls.specs.LaneLaws.{is_caused_in}
use Rattle.qp_calls_log.proofs.LogLemmas.{regular, spills, regular-same, spills-now, nils-same, causes-more, spill-not_nil}
use Rattle.qp_calls_log.proofs.log.Log.add_spill.Goals as goal

pub invariant_of-self : goal.invariant_of-self
invariant_of-self c =
    let s = c.args.self.now in
    let is = c.push_reserved.ensures.items in
    let same = regular-same s.recs.items c.args.rec c.requires.spill in
    let place = ap spill_place c.requires.first in
    record {
      roomy = omega (arith, s.roomy, place, c.push_reserved.ensures.len, c.push_reserved.ensures.capacity);
      few = subst (λ (z : List Rec). regular (lane_items z) + s.spare ≤ 1000000) (sym is) (omega (arith, s.few, same));
      spills = subst (λ (z : List Rec). spills (lane_items z) + 0 ≡ 1) (sym is) (let now = spills-now s.recs.items c.args.rec c.requires.spill in omega (arith, now, s.spills, place));
      seats = s.seats;
      nils_are = λ a lt. subst (λ (z : List Rec). nil_of (get_or s.nils.items a None) ≡ last_nil_in a NotShown (lane_items z)) (sym is) (s.nils_are a lt ∙ sym (nils-same s.recs.items c.args.rec (spill-not_nil _ c.requires.spill) a));
      causes = subst (λ (z : List Rec). list_all (is_caused_in (lane_items z)) s.stops.list ≡ true) (sym is) (causes-more s.recs.items c.args.rec s.stops.list s.causes);
    }
