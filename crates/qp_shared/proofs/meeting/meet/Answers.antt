use Rattle.std.proofs.Common.{◌≡◌, ◌∙◌, ap, sym, subst, length}
use Rattle.qp_table.specs.After.{views_joined, onlooker}
use Rattle.qp_table.specs.declared.view.View.{View}
use Rattle.qp_calls_log.specs.Meeting.{Met}
use Rattle.qp_side.specs.Told.{both_of, side_onlooker}
use Rattle.qp_side.specs.declared.view.SideView.{SideView}
use Rattle.qp_shared_lane.specs.Holds.{LaneHolds, told_by}
use Rattle.qp_side.specs.Seat.{side_mark}
use Rattle.qp_shared_lane.specs.Lane.{lane_context, lane_with, world_of_lane, state_view}
use Rattle.qp_shared_lane.specs.declared.lane.LaneState.{LaneState}
use Rattle.qp_shared_lane.proofs.Used.{ends-same}
use Rattle.qp_shared_ends.specs.Seats.{IsOnePast}
use Rattle.qp_table.specs.Lane.{lane_of}
use Rattle.qp_shared.proofs.Meetings.{met, heard, heard-onlooker, joined-onlooker, same-side_table, same-table, lane-meets, lane-keeps}
use Rattle.qp_shared.proofs.meeting.meet.Goals as goal

pub join_seats-requires-clause-other : goal.join_seats-requires-clause-other
join_seats-requires-clause-other c = (c.look_on-seen.ensures.table.0 ∙ (c.args.other.now.own ∙ same-table c.args.lane.now c.args.other.now c.requires.world), c.look_on-seen.ensures.table.1)

pub join_seats-requires-2-clause-other : goal.join_seats-requires-2-clause-other
join_seats-requires-2-clause-other c = (c.look_on-heard.ensures.table.0 ∙ (c.args.other.now.side.own ∙ same-side_table c.args.lane.now c.args.other.now c.requires.world), c.look_on-heard.ensures.table.1)

-- the views after
view-is : (v w a b u : View) → a ≡ onlooker w → b ≡ views_joined v a → u ≡ b → u ≡ met v w
view-is v w a b u is both stays = stays ∙ (both ∙ (ap (views_joined v) is ∙ joined-onlooker v w))

side-is : (s z a u : SideView) → length s.view.logs ≡ 1 → a ≡ side_onlooker z → u ≡ both_of s a → u ≡ heard s z
side-is s z a u one is both = both ∙ (ap (both_of s) is ∙ heard-onlooker s z one)

pub invariant_of-lane : goal.invariant_of-lane
unfolding lane_of
invariant_of-lane c =
    let l : LaneState = c.args.lane.now in let o : LaneState = c.args.other.now in
    let u = view-is l.seat.me.0 o.seat.me.0 c.look_on-seen.result.me.0 c.join_seats.new.seat.me.0 c.know_past.new.seat.me.0 c.look_on-seen.ensures.seat c.join_seats.ensures.both c.know_past.ensures.told.0 in
    let z = side-is l.side.seat.me.0 o.side.seat.me.0 c.look_on-heard.result.me.0 c.join_seats-2.new.seat.me.0 l.side.lane c.look_on-heard.ensures.seat c.join_seats-2.ensures.both in
    let past : IsOnePast l.words.now.shared.key (met l.seat.me.0 o.seat.me.0) = subst (IsOnePast l.words.now.shared.key) (sym c.know_past.ensures.told.0 ∙ u) c.know_past.ensures.told.1 in record {
      own = c.know_past.ensures.same.0 ∙ (c.join_seats.ensures.same.0 ∙ l.own);
      wide = l.wide;
      key = l.key;
      side_key = l.side_key;
      rings_key = l.rings_key;
      ended = ends-same l.ends.at l.seat.me.0 c.know_past.new.seat.me.0 (ap (λ (z : View). z.used) u) l.ended;
      holds = subst (λ (p : View × SideView). LaneHolds l.sys.now l.count l.ceiling l.log l.numbers.list p.0 p.1) (λ i. (sym u i, sym z i))
          (lane-keeps (world_of_lane l) l.sys.now l.by l.count l.ceiling l.log l.numbers.list l.seat.me.0 o.seat.me.0 l.side.seat.me.0 o.side.seat.me.0 (lane_context (world_of_lane o) o.sys.now o.by o.log o.seat.me.0 o.side.seat.me.0) (told_by o.log o.numbers.list o.seat.me.0) o.log.spare
          c.requires.sys (subst (λ k. IsOnePast k (met l.seat.me.0 o.seat.me.0)) l.key past) (λ x. ap (λ y. side_mark y o.side.seat.me.0 x) c.requires.sys) l.holds);
    }

pub returns-clause-meets : goal.returns-clause-meets
unfolding lane_of
returns-clause-meets c =
    let l : LaneState = c.args.lane.now in let o : LaneState = c.args.other.now in
    let u = view-is l.seat.me.0 o.seat.me.0 c.look_on-seen.result.me.0 c.join_seats.new.seat.me.0 c.know_past.new.seat.me.0 c.look_on-seen.ensures.seat c.join_seats.ensures.both c.know_past.ensures.told.0 in
    let z = side-is l.side.seat.me.0 o.side.seat.me.0 c.look_on-heard.result.me.0 c.join_seats-2.new.seat.me.0 l.side.lane c.look_on-heard.ensures.seat c.join_seats-2.ensures.both in
    let past : IsOnePast l.words.now.shared.key (met l.seat.me.0 o.seat.me.0) = subst (IsOnePast l.words.now.shared.key) (sym c.know_past.ensures.told.0 ∙ u) c.know_past.ensures.told.1 in
    subst (λ (p : View × SideView). Met (state_view l) (state_view o) (lane_with (world_of_lane l) l.sys.now l.by l.log l.numbers.list p.0 p.1)) (λ i. (sym u i, sym z i))
    (lane-meets (world_of_lane l) l.sys.now l.by l.count l.ceiling l.log l.numbers.list l.seat.me.0 o.seat.me.0 l.side.seat.me.0 o.side.seat.me.0 (lane_context (world_of_lane o) o.sys.now o.by o.log o.seat.me.0 o.side.seat.me.0) (told_by o.log o.numbers.list o.seat.me.0) o.log.spare
    c.requires.sys (subst (λ k. IsOnePast k (met l.seat.me.0 o.seat.me.0)) l.key past) (λ x. ap (λ y. side_mark y o.side.seat.me.0 x) c.requires.sys))
