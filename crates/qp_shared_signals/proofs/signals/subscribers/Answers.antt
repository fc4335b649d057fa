use Rattle.std.proofs.Common.{get_or, ap, subst, ◌∙◌}
use Rattle.qp_model.specs.declared.record.Rec.{Rec}
use Rattle.qp_calls.specs.Clauses.{ReadsSubscribers}
use Rattle.qp_side.specs.Calls.{ShowsSet}
use Rattle.qp_shared_lane.specs.Lane.{state_view}
use Rattle.qp_shared_signals.proofs.Calling.{spare-is, side-room, side-signal, own-signal, set-plain, reads, in-world}
use Rattle.qp_shared_signals.proofs.signals.subscribers.Goals as goal

pub subscribers-rec-requires-clause-room : goal.subscribers-rec-requires-clause-room
subscribers-rec-requires-clause-room c = side-room c.args.lane.now c.requires.room

pub subscribers-rec-requires-clause-signal : goal.subscribers-rec-requires-clause-signal
subscribers-rec-requires-clause-signal c = side-signal c.args.lane.now c.args.sig c.requires.signal

pub put-requires-clause-room : goal.put-requires-clause-room
put-requires-clause-room c = spare-is c.args.lane.now c.requires.room

pub put-requires-clause-plain : goal.put-requires-clause-plain
put-requires-clause-plain c = set-plain c.args.lane.now.side.words.now.shared.key c.args.lane.now.by c.args.lane.now.side.seat.me.0 c.subscribers-rec.result c.subscribers-rec.new.self.seat.me.0 c.args.sig c.subscribers-rec.ensures.shows

pub invariant_of-lane : goal.invariant_of-lane
invariant_of-lane c = record {
  own = c.args.lane.now.own;
  wide = c.args.lane.now.wide;
  key = c.args.lane.now.key;
  side_key = (λ i. (c.subscribers-rec.ensures.same.0 i).now.shared.key) ∙ c.args.lane.now.side_key;
  rings_key = c.args.lane.now.rings_key;
  ended = c.args.lane.now.ended;
  holds = (reads c.args.lane.now c.subscribers-rec.new.self.seat.me.0 c.put.new.log c.put.new.numbers.list c.subscribers-rec.result 0 c.put.ensures.put c.put.ensures.spare c.args.sig (own-signal c.args.lane.now c.args.sig c.requires.signal) (get_or c.deref.result.now 2 0) (subst (λ k. ShowsSet k c.args.lane.now.by c.args.sig c.args.lane.now.side.seat.me.0 c.subscribers-rec.result c.subscribers-rec.new.self.seat.me.0) c.args.lane.now.side_key c.subscribers-rec.ensures.shows) (ap (λ xs. get_or xs 2 0) (c.deref.ensures.0 ∙ ap (λ (r : Rec). r.nums.items) c.subscribers-rec.ensures.shows.is))).0;
}

pub returns : goal.returns
returns c = in-world c.args.lane.now c.subscribers-rec.new.self.seat.me.0 c.put.new.log c.put.new.numbers.list c.subscribers-rec.result 0 c.put.ensures.put c.put.ensures.spare (λ v. ReadsSubscribers c.args.sig (state_view c.args.lane.now) v (get_or c.deref.result.now 2 0)) c.subscribers-rec.new.self.words.now.shared.table_id (λ i. (c.subscribers-rec.ensures.same.0 i).now.shared.table_id)
    ((reads c.args.lane.now c.subscribers-rec.new.self.seat.me.0 c.put.new.log c.put.new.numbers.list c.subscribers-rec.result 0 c.put.ensures.put c.put.ensures.spare c.args.sig (own-signal c.args.lane.now c.args.sig c.requires.signal) (get_or c.deref.result.now 2 0) (subst (λ k. ShowsSet k c.args.lane.now.by c.args.sig c.args.lane.now.side.seat.me.0 c.subscribers-rec.result c.subscribers-rec.new.self.seat.me.0) c.args.lane.now.side_key c.subscribers-rec.ensures.shows) (ap (λ xs. get_or xs 2 0) (c.deref.ensures.0 ∙ ap (λ (r : Rec). r.nums.items) c.subscribers-rec.ensures.shows.is))).1)
