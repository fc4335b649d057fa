use Rattle.std.proofs.Common.{◌≡◌, ◌+◌, ◌-◌, ◌≤◌, true, List, subst, sym, ap, ◌∙◌, arith, get_or, None}
use Rattle.std.specs.List.{list_all}
use Rattle.qp_model.specs.declared.record.Rec.{Rec}
use Rattle.qp_model.specs.History.{lane_items}
use Rattle.qp_calls.specs.LaneView.{NotShown}
use Rattle.qp_calls_log.specs.Lane.{last_nil_in, nil_of, spill_place}
use Rattle.qp_calls.specs.LaneLaws.{is_caused_in}
use Rattle.qp_calls_log.proofs.LogLemmas.{regular, spills, plain-parts, regular-more, spills-same, nils-same, causes-more}
use Rattle.qp_calls_log.proofs.log.Log.add.Goals as goal

pub invariant_of-self : goal.invariant_of-self
invariant_of-self c =
    let s = c.args.self.now in
    let is = c.push_reserved.ensures.items in
    let plain = plain-parts _ c.requires.plain in
    let more = regular-more s.recs.items c.args.rec plain.spill in
    record {
      roomy = omega (arith, s.roomy, c.requires.room, c.push_reserved.ensures.len, c.push_reserved.ensures.capacity);
      few = subst (λ (z : List Rec). regular (lane_items z) + (s.spare - 1) ≤ 1000000) (sym is) (omega (arith, s.few, more, c.requires.room));
      spills = subst (λ (z : List Rec). spills (lane_items z) + spill_place s.spilled ≡ 1) (sym is) (ap (λ n. n + spill_place s.spilled) (spills-same s.recs.items c.args.rec plain.spill) ∙ s.spills);
      seats = s.seats;
      nils_are = λ a lt. subst (λ (z : List Rec). nil_of (get_or s.nils.items a None) ≡ last_nil_in a NotShown (lane_items z)) (sym is) (s.nils_are a lt ∙ sym (nils-same s.recs.items c.args.rec plain.nil a));
      causes = subst (λ (z : List Rec). list_all (is_caused_in (lane_items z)) s.stops.list ≡ true) (sym is) (causes-more s.recs.items c.args.rec s.stops.list s.causes);
    }
