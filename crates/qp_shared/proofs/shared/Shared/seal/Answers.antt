use Rattle.std.proofs.Common.{◌≡◌, ◌∙◌, ◌+◌, List, [], ◌∷◌, ◌++◌, length, map, slice_index_or, sym, ap, subst, refl, eq-eqb, arith}
use Rattle.std.specs.List.{remove}
use Rattle.std.proofs.lemmas.List.{length-map}
use Rattle.qp_model.specs.declared.record.Rec.{Rec}
use Rattle.qp_model.specs.declared.systems.System.{System}
use Rattle.qp_model.specs.declared.journals.Journal.{Journal}
use Rattle.qp_model.specs.End.{end_of}
use Rattle.qp_model.specs.History.{all_items}
use Rattle.qp_port_law.specs.Sealed.{SealsLanes}
use Rattle.qp_table.specs.Counting.{Each}
use Rattle.qp_table.specs.declared.view.View.{View}
use Rattle.qp_side.specs.Laws.{IsSideWhole}
use Rattle.qp_side.specs.declared.view.SideView.{SideView}
use Rattle.qp_shared_lane.specs.declared.lane.LaneState.{LaneState}
use Rattle.qp_shared_lane.specs.Lane.{state_view}
use Rattle.qp_shared_ends.specs.SeatEnd.{AtEnd}
use Rattle.qp_shared_ends.specs.Joining.{all_both, all_joined, recs_in, side_of, table_of}
use Rattle.qp_shared_ends.proofs.Sealing.{lanes_are_sealed}
use Rattle.qp_shared.specs.declared.lane.SharedLane.{SharedLane}
use Rattle.qp_shared.specs.declared.shared.Shared.{Shared}
use Rattle.qp_shared.specs.Ending.{AreAll, IsOn, lane_states}
use Rattle.qp_shared.specs.Lane.{lane_view, shared_records}
use Rattle.qp_shared.proofs.Taken.{front, are-on, of-system, same-views, same-records, whole-table, whole-side}
use Rattle.qp_shared.proofs.shared.Shared.seal.Goals as goal

module _ (s : Shared) (lanes others : List SharedLane) (first : SharedLane) (all : AreAll s (map lane_view lanes)) (value : first ≡ slice_index_or lanes 0 first) (left : others ≡ remove lanes 0) where
  split : lanes ≡ first ∷ others
  split = let some = all.some in let long = length-map lanes lane_view in front lanes first others (omega arith) value left

  all-on : Each (IsOn s.words.shared.table_id s.side.shared.table_id) (lane_states (first ∷ others))
  all-on = subst (λ ls. Each (IsOn s.words.shared.table_id s.side.shared.table_id) (lane_states ls)) split (are-on s (length (map lane_view lanes)) lanes all.worlds)

  all-of : AreAll s (map lane_view (first ∷ others))
  all-of = subst (λ ls. AreAll s (map lane_view ls)) split all

  systems : Each (λ (l : LaneState). l.sys.now ≡ s.sys.now) (first.state ∷ lane_states others)
  systems = of-system s.sys.now (first ∷ others) all-of.systems

  views : map lane_view lanes ≡ map state_view (first.state ∷ lane_states others)
  views = ap (map lane_view) split ∙ same-views (first ∷ others)

  records : (now : List (List Rec)) → now ≡ recs_in first.state ∷ map recs_in (lane_states others) → now ≡ map shared_records lanes
  records now is = is ∙ (sym (same-records (first ∷ others)) ∙ sym (ap (map shared_records) split))

pub gather-records-requires-clause-own : goal.gather-records-requires-clause-own
gather-records-requires-clause-own c = ((all-on c.args.self.now c.args.lanes.items c.remove-state.new.self.items c.remove-state.result c.requires.all c.remove-state.ensures.value c.remove-state.ensures.items).0.0, c.args.self.now.wide)

pub gather-records-requires-clause-beside : goal.gather-records-requires-clause-beside
gather-records-requires-clause-beside c = ((all-on c.args.self.now c.args.lanes.items c.remove-state.new.self.items c.remove-state.result c.requires.all c.remove-state.ensures.value c.remove-state.ensures.items).0.1, c.args.self.now.side_wide)

pub gather-records-requires-clause-on : goal.gather-records-requires-clause-on
gather-records-requires-clause-on c = (all-on c.args.self.now c.args.lanes.items c.remove-state.new.self.items c.remove-state.result c.requires.all c.remove-state.ensures.value c.remove-state.ensures.items).1

pub know_end-requires-clause-own : goal.know_end-requires-clause-own
know_end-requires-clause-own c = c.gather-records.ensures.own ∙ (all-on c.args.self.now c.args.lanes.items c.remove-state.new.self.items c.remove-state.result c.requires.all c.remove-state.ensures.value c.remove-state.ensures.items).0.0

pub know_end-requires-clause-all : goal.know_end-requires-clause-all
know_end-requires-clause-all c = ap (λ (v : View). length v.logs + length v.lane_numbers) c.gather-records.ensures.table ∙ whole-table c.args.self.now c.remove-state.result c.remove-state.new.self.items (all-of c.args.self.now c.args.lanes.items c.remove-state.new.self.items c.remove-state.result c.requires.all c.remove-state.ensures.value c.remove-state.ensures.items)

pub know_whole-requires-clause-own : goal.know_whole-requires-clause-own
know_whole-requires-clause-own c = c.gather-records.ensures.beside ∙ (all-on c.args.self.now c.args.lanes.items c.remove-state.new.self.items c.remove-state.result c.requires.all c.remove-state.ensures.value c.remove-state.ensures.items).0.1

pub know_whole-requires-clause-all : goal.know_whole-requires-clause-all
know_whole-requires-clause-all c = ap (λ (v : SideView). length v.view.logs + length v.view.lane_numbers) c.gather-records.ensures.side ∙ whole-side c.args.self.now c.remove-state.result c.remove-state.new.self.items (all-of c.args.self.now c.args.lanes.items c.remove-state.new.self.items c.remove-state.result c.requires.all c.remove-state.ensures.value c.remove-state.ensures.items)

-- the records of all, the first one's first
all-records : (c : goal.After-drop-seat) → c.gather-records.result.items ≡ recs_in c.remove-state.result.state ∷ map recs_in (lane_states c.remove-state.new.self.items)
all-records c = c.gather-records.ensures.records ∙ ap (λ rs. rs ++ map recs_in (lane_states c.remove-state.new.self.items)) (c.push_reserved.ensures.items ∙ ap (λ rs. rs ++ recs_in c.remove-state.result.state ∷ []) c.requires.empty)

pub returns-clause-records : goal.returns-clause-records
returns-clause-records c = records c.args.self.now c.args.lanes.items c.remove-state.new.self.items c.remove-state.result c.requires.all c.remove-state.ensures.value c.remove-state.ensures.items c.gather-records.result.items (all-records c)

pub returns-clause-seals : goal.returns-clause-seals
returns-clause-seals c =
    let sys : System = c.args.self.now.sys.now in
    let j : Journal = record { kernel = c.args.kernel; budget = c.args.budget; lanes = c.gather-records.result.items; end = c.end_of-end.result } in
    let atend : AtEnd sys (all_joined (table_of c.remove-state.result.state) (map table_of (lane_states c.remove-state.new.self.items))) =
    subst (λ k. AtEnd k (all_joined (table_of c.remove-state.result.state) (map table_of (lane_states c.remove-state.new.self.items)))) c.args.self.now.key (subst (AtEnd c.args.self.now.words.shared.key) c.gather-records.ensures.table c.know_end.ensures.told.1) in
    let whole : IsSideWhole sys (all_both (side_of c.remove-state.result.state) (map side_of (lane_states c.remove-state.new.self.items))) =
    subst (λ k. IsSideWhole k (all_both (side_of c.remove-state.result.state) (map side_of (lane_states c.remove-state.new.self.items)))) c.args.self.now.side_key (subst (IsSideWhole c.args.self.now.side.shared.key) c.gather-records.ensures.side c.know_whole.ensures.told.1) in
    subst (λ vs. SealsLanes sys c.args.kernel c.args.budget vs j) (sym (views c.args.self.now c.args.lanes.items c.remove-state.new.self.items c.remove-state.result c.requires.all c.remove-state.ensures.value c.remove-state.ensures.items))
    (lanes_are_sealed sys c.args.kernel c.args.budget c.remove-state.result.state (lane_states c.remove-state.new.self.items) j (systems c.args.self.now c.args.lanes.items c.remove-state.new.self.items c.remove-state.result c.requires.all c.remove-state.ensures.value c.remove-state.ensures.items) atend whole refl refl (all-records c)
    (eq-eqb c.end_of-end.result (end_of (all_items c.gather-records.result.items)) c.end_of-end.ensures))
