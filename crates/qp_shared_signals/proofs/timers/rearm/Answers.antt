use Rattle.std.proofs.Common.{get_or, ap, subst, ◌∙◌}
use Rattle.qp_model.specs.declared.record.Rec.{Rec}
use Rattle.qp_model.specs.declared.words.Word.TheVariants as word
use Rattle.qp_calls.specs.Clauses.{CallRearms, FewTries}
use Rattle.qp_side.specs.Calls.{RearmsTimer, SideTries, own_draw}
use Rattle.qp_shared_lane.specs.Lane.{state_view}
use Rattle.qp_shared_signals.proofs.Calling.{spare-is, side-room, side-owns, rearm-plain, rearms, tried, in-world}
use Rattle.qp_shared_signals.proofs.timers.rearm.Goals as goal

pub rearm-rec-requires-clause-room : goal.rearm-rec-requires-clause-room
rearm-rec-requires-clause-room g c = side-room c.args.lane.now c.requires.room

pub rearm-rec-requires-clause-owns : goal.rearm-rec-requires-clause-owns
rearm-rec-requires-clause-owns g c = side-owns c.args.lane.now c.args.t c.requires.owns

pub put-requires-clause-room : goal.put-requires-clause-room
put-requires-clause-room g c = spare-is c.args.lane.now c.requires.room

pub put-requires-clause-plain : goal.put-requires-clause-plain
put-requires-clause-plain g c = rearm-plain c.args.lane.now.sys.now c.args.lane.now.by c.args.lane.now.side.seat.me.0 c.rearm-rec.result c.rearm-rec.new.self.seat.me.0 c.args.t c.args.ticks (subst (λ k. RearmsTimer k c.args.lane.now.by c.args.t c.args.ticks c.args.lane.now.side.seat.me.0 c.rearm-rec.result c.rearm-rec.new.self.seat.me.0) c.args.lane.now.side_key c.rearm-rec.ensures.rearms)

pub invariant_of-lane : goal.invariant_of-lane
invariant_of-lane g c = record {
  own = c.args.lane.now.own;
  wide = c.args.lane.now.wide;
  key = c.args.lane.now.key;
  side_key = (λ i. (c.rearm-rec.ensures.same.0 i).now.shared.key) ∙ c.args.lane.now.side_key;
  rings_key = c.args.lane.now.rings_key;
  ended = c.args.lane.now.ended;
  holds = (rearms c.args.lane.now c.rearm-rec.new.self.seat.me.0 c.put.new.log c.put.new.numbers.list c.rearm-rec.result 0 c.put.ensures.put c.put.ensures.spare c.args.t c.args.ticks (get_or c.deref.result.now 2 0) (subst (λ k. RearmsTimer k c.args.lane.now.by c.args.t c.args.ticks c.args.lane.now.side.seat.me.0 c.rearm-rec.result c.rearm-rec.new.self.seat.me.0) c.args.lane.now.side_key c.rearm-rec.ensures.rearms) (ap (λ xs. get_or xs 2 0) (c.deref.ensures.0 ∙ ap (λ (r : Rec). r.nums.items) (subst (λ k. RearmsTimer k c.args.lane.now.by c.args.t c.args.ticks c.args.lane.now.side.seat.me.0 c.rearm-rec.result c.rearm-rec.new.self.seat.me.0) c.args.lane.now.side_key c.rearm-rec.ensures.rearms).is))).0;
}

pub returns-clause-rearms : goal.returns-clause-rearms
returns-clause-rearms g c = in-world c.args.lane.now c.rearm-rec.new.self.seat.me.0 c.put.new.log c.put.new.numbers.list c.rearm-rec.result 0 c.put.ensures.put c.put.ensures.spare (λ v. CallRearms c.args.t c.args.ticks (state_view c.args.lane.now) v (get_or c.deref.result.now 2 0)) c.rearm-rec.new.self.words.now.shared.table_id (λ i. (c.rearm-rec.ensures.same.0 i).now.shared.table_id)
    ((rearms c.args.lane.now c.rearm-rec.new.self.seat.me.0 c.put.new.log c.put.new.numbers.list c.rearm-rec.result 0 c.put.ensures.put c.put.ensures.spare c.args.t c.args.ticks (get_or c.deref.result.now 2 0) (subst (λ k. RearmsTimer k c.args.lane.now.by c.args.t c.args.ticks c.args.lane.now.side.seat.me.0 c.rearm-rec.result c.rearm-rec.new.self.seat.me.0) c.args.lane.now.side_key c.rearm-rec.ensures.rearms) (ap (λ xs. get_or xs 2 0) (c.deref.ensures.0 ∙ ap (λ (r : Rec). r.nums.items) (subst (λ k. RearmsTimer k c.args.lane.now.by c.args.t c.args.ticks c.args.lane.now.side.seat.me.0 c.rearm-rec.result c.rearm-rec.new.self.seat.me.0) c.args.lane.now.side_key c.rearm-rec.ensures.rearms).is))).1)

pub returns-clause-tries : goal.returns-clause-tries
returns-clause-tries g c = in-world c.args.lane.now c.rearm-rec.new.self.seat.me.0 c.put.new.log c.put.new.numbers.list c.rearm-rec.result 0 c.put.ensures.put c.put.ensures.spare (λ v. FewTries (word.Timer c.args.t) 1 c.args.steps.now c.rearm-rec.new.steps (state_view c.args.lane.now) v) c.rearm-rec.new.self.words.now.shared.table_id (λ i. (c.rearm-rec.ensures.same.0 i).now.shared.table_id)
    (tried c.args.lane.now c.rearm-rec.new.self.seat.me.0 c.put.new.log c.put.new.numbers.list c.rearm-rec.result 0 c.put.ensures.put c.put.ensures.spare c.args.t 1 c.args.steps.now c.rearm-rec.new.steps (ap (λ (r : Rec). own_draw r.kind) (subst (λ k. RearmsTimer k c.args.lane.now.by c.args.t c.args.ticks c.args.lane.now.side.seat.me.0 c.rearm-rec.result c.rearm-rec.new.self.seat.me.0) c.args.lane.now.side_key c.rearm-rec.ensures.rearms).is) (subst (λ k. SideTries k (word.Timer c.args.t) c.rearm-rec.result c.args.steps.now c.rearm-rec.new.steps c.args.lane.now.side.seat.me.0 c.rearm-rec.new.self.seat.me.0) c.args.lane.now.side_key c.rearm-rec.ensures.tries))
