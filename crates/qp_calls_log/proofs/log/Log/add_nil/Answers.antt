use Rattle.std.proofs.Common.{◌≡◌, ◌+◌, ◌-◌, ◌<◌, ◌≤◌, true, false, ◌∷◌, ◌++◌, [], List, length, subst, sym, ◌∙◌, ap, arith, get_or, slice_set, Some, None}
use Rattle.std.specs.List.{list_all}
use Rattle.std.proofs.lemmas.List.{length-set}
use Rattle.qp_model.specs.declared.record.Rec.{Rec}
use Rattle.qp_model.specs.Ends.{is_spill}
use Rattle.qp_model.specs.History.{lane_items}
use Rattle.qp_calls.specs.LaneView.{NotShown}
use Rattle.qp_calls_log.specs.Lane.{last_nil_in, nil_of, spill_place}
use Rattle.qp_calls.specs.LaneLaws.{is_caused_in}
use Rattle.qp_calls_log.proofs.LogLemmas.{regular, spills, regular-more, spills-same, nils-now, causes-more}
use Rattle.qp_calls_log.proofs.log.Log.add_nil.Goals as goal

pub invariant_of-self : goal.invariant_of-self
invariant_of-self c =
    let s = c.args.self.now in
    let is = c.push_reserved.ensures.items in
    let spill : is_spill _ ≡ false = ap (λ i. is_spill i.body) c.requires.nil in
    let more = regular-more s.recs.items c.args.rec spill in
    let lt : c.args.me < length s.nils.items = rw s.seats c.requires.queue in
    record {
      roomy = omega (arith, s.roomy, c.requires.room, c.push_reserved.ensures.len, c.push_reserved.ensures.capacity);
      few = subst (λ (z : List Rec). regular (lane_items z) + (s.spare - 1) ≤ 1000000) (sym is) (omega (arith, s.few, more, c.requires.room));
      spills = subst (λ (z : List Rec). spills (lane_items z) + spill_place s.spilled ≡ 1) (sym is) (ap (λ n. n + spill_place s.spilled) (spills-same s.recs.items c.args.rec spill) ∙ s.spills);
      seats = length-set s.nils.items c.from.result (Some c.args.now) ∙ s.seats;
      nils_are = λ a at. subst (λ (z : List Rec). nil_of (get_or (slice_set s.nils.items c.from.result (Some c.args.now)) a None) ≡ last_nil_in a NotShown (lane_items z)) (sym is)
          (subst (λ k. nil_of (get_or (slice_set s.nils.items k (Some c.args.now)) a None) ≡ last_nil_in a NotShown (lane_items (s.recs.items ++ c.args.rec ∷ []))) (sym c.from.ensures)
          (nils-now s.recs.items c.args.rec s.nils.items c.args.me c.args.now c.requires.nil lt a (s.nils_are a at)));
      causes = subst (λ (z : List Rec). list_all (is_caused_in (lane_items z)) s.stops.list ≡ true) (sym is) (causes-more s.recs.items c.args.rec s.stops.list s.causes);
    }
