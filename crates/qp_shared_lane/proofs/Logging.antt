-- Spare and codes: no record changes.
use Rattle.std.proofs.Common.{◌≡◌, ℕ, ◌+◌, List, [], length, refl, sym, ap, subst, ◌∙◌}
use Rattle.std.specs.List.{list_all, list_any}
use Rattle.qp_model.specs.declared.record.Rec.{Rec}
use Rattle.qp_model.specs.declared.systems.System.{System}
use Rattle.qp_model.specs.declared.words.Word.{Word}
use Rattle.qp_model.specs.Told.{ToldItem}
use Rattle.qp_table.specs.Rule.{is_serve}
use Rattle.qp_table.specs.declared.view.View.{View}
use Rattle.qp_calls.specs.Tokens.{hands_after}
use Rattle.qp_calls.specs.LaneView.{codes_in, ceiling_in}
use Rattle.qp_calls_log.specs.declared.log.Log.{Log}
use Rattle.qp_table.specs.Lane.{lane_of, own_recs, on_table_of, tell_lane, event_seen, tokens, lane_number}
use Rattle.qp_side.specs.declared.view.SideView.{SideView}
use Rattle.qp_shared_lane.specs.Holds.{LaneHolds, told_by, on_side_of, AreRead, IsBehind, IsSideBehind, AreFormer, borne_out, KnowSubscribers}
use Rattle.qp_side.specs.Seat.{side_mark}
use Rattle.qp_shared_lane.specs.Lane.{lane_with}
use Rattle.qp_shared_lane.specs.Laws.{LogsKeepTheLane}

-- the facts that the records and numbers bear, and those of both views
module _ (sys : System) (count ceiling : ℕ) (g : Log) (numbers : List ℕ) (v : View) (s : SideView) (h : Log) (z : SideView)
    (holds : LaneHolds sys count ceiling g numbers v s) (recs : h.recs.items ≡ g.recs.items) (view : z.view ≡ s.view) (stops : h.stops.list ≡ z.stops) (answered : codes_in h.answered.list ≡ z.answered) where
  same-told : told_by h numbers v ≡ told_by g numbers v
  same-told = ap (λ rs. tell_lane (event_seen v.contents) rs numbers) recs

  pub log-holds : LaneHolds sys count ceiling h numbers v z
  log-holds = record {
    fitting = holds.fitting;
    side_fitting = holds.side_fitting;
    bare = holds.bare;
    lane = holds.lane;
    side_lane = ap (λ (x : View). length x.logs) view ∙ holds.side_lane;
    number = ap lane_number view ∙ holds.number;
    same = ap on_table_of recs ∙ holds.same;
    same_side = ap on_side_of recs ∙ (holds.same_side ∙ ap own_recs (sym view));
    serves = λ o. ap (λ (x : View). list_any (is_serve o) x.serves) view ∙ holds.serves o;
    stops = stops;
    answered = answered;
    beside = holds.beside ∙ ap length (sym recs);
    hands = λ x. ap (λ (ts : List ToldItem). tokens x (hands_after [] ts)) same-told ∙ holds.hands x;
    read = holds.read;
    handled = subst (λ (ts : List ToldItem). AreRead ts v) (sym same-told) holds.handled;
    still = holds.still;
    placed = holds.placed;
    worn = holds.worn;
    behind = subst (λ (rs : List Rec). IsBehind sys rs v) (sym recs) holds.behind;
    side_behind = subst (λ (rs : List Rec). IsSideBehind sys rs z) (sym recs) (subst (λ (x : View). IsSideBehind sys g.recs.items (record { view = x; stops = z.stops; answered = z.answered })) (sym view) holds.side_behind);
    borne = ap (list_all (borne_out sys v.seen)) same-told ∙ holds.borne;
    subscribers = subst (KnowSubscribers (λ o. list_any (is_serve o) v.serves) []) (sym same-told) holds.subscribers;
    formers = subst (AreFormer 0) (sym same-told) holds.formers;
    ceiling_is = ap (ceiling_in 0) same-told ∙ holds.ceiling_is;
    rights = holds.rights;
    side_rights = ap (λ (x : View). length x.logs + length x.lane_numbers) view ∙ holds.side_rights;
  }

  marks-are : ◌≡◌ {A = Word → ℕ} (side_mark sys z) (side_mark sys s)
  marks-are = ap (λ (x : View). side_mark sys (record { view = x; stops = z.stops; answered = z.answered })) view ∙ refl

  pub log-is : (world : List ℕ) (by : ℕ) → lane_with world sys by h numbers v z ≡ record (lane_with world sys by g numbers v s) { spare = h.spare; stops = h.stops.list; answered = codes_in h.answered.list; asked = length h.answered.list }
  unfolding lane_of
  log-is world by = (λ i. lane_of (record { world = world; sys = sys; number = lane_number v; by = by; stops = h.stops.list; answered = h.answered.list; side = marks-are i }) (same-told i) h.spare v)

pub logs-keep : LogsKeepTheLane
logs-keep world sys by count ceiling g numbers v s h z holds recs view stops answered = record {
  holds = log-holds sys count ceiling g numbers v s h z holds recs view stops answered;
  is = log-is sys count ceiling g numbers v s h z holds recs view stops answered world by;
}
