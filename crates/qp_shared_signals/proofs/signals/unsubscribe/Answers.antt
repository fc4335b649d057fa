use Rattle.std.proofs.Common.{◌==◌, refl, subst, ◌∙◌}
use Rattle.qp_calls.specs.Clauses.{Unsubscribing}
use Rattle.qp_side.specs.Calls.{SideUnsubscribes}
use Rattle.qp_shared_lane.specs.Lane.{state_view}
use Rattle.qp_shared_signals.proofs.Calling.{spare-is, side-room, side-object, side-serves, side-signal, own-signal, own-object, unsubscribe-plain, unsubscribed, in-world}
use Rattle.qp_shared_signals.proofs.signals.unsubscribe.Goals as goal

pub unsubscribe-rec-requires-clause-room : goal.unsubscribe-rec-requires-clause-room
unsubscribe-rec-requires-clause-room c = side-room c.args.lane.now c.requires.room

pub unsubscribe-rec-requires-clause-object : goal.unsubscribe-rec-requires-clause-object
unsubscribe-rec-requires-clause-object c = side-object c.args.lane.now c.requires.object

pub unsubscribe-rec-requires-clause-serves : goal.unsubscribe-rec-requires-clause-serves
unsubscribe-rec-requires-clause-serves c = side-serves c.args.lane.now c.requires.serves

pub unsubscribe-rec-requires-clause-signal : goal.unsubscribe-rec-requires-clause-signal
unsubscribe-rec-requires-clause-signal c = side-signal c.args.lane.now c.args.sig c.requires.signal

pub put-requires-clause-room : goal.put-requires-clause-room
put-requires-clause-room c = spare-is c.args.lane.now c.requires.room

pub put-requires-clause-plain : goal.put-requires-clause-plain
put-requires-clause-plain c = unsubscribe-plain c.args.lane.now.side.words.now.shared.key c.args.lane.now.by c.args.lane.now.side.seat.me.0 c.unsubscribe-rec.result c.unsubscribe-rec.new.self.seat.me.0 c.args.sig (c.unsubscribe-rec.result.kind == 32) c.unsubscribe-rec.ensures.unsubscribes

pub invariant_of-lane : goal.invariant_of-lane
invariant_of-lane c = record {
  own = c.args.lane.now.own;
  wide = c.args.lane.now.wide;
  key = c.args.lane.now.key;
  side_key = (λ i. (c.unsubscribe-rec.ensures.same.0 i).now.shared.key) ∙ c.args.lane.now.side_key;
  rings_key = c.args.lane.now.rings_key;
  ended = c.args.lane.now.ended;
  holds = (unsubscribed c.args.lane.now c.unsubscribe-rec.new.self.seat.me.0 c.put.new.log c.put.new.numbers.list c.unsubscribe-rec.result 0 c.put.ensures.put c.put.ensures.spare c.args.sig (own-signal c.args.lane.now c.args.sig c.requires.signal) (own-object c.args.lane.now c.requires.serves) (c.unsubscribe-rec.result.kind == 32) refl (subst (λ k. SideUnsubscribes k c.args.lane.now.by c.args.sig c.args.lane.now.side.seat.me.0 c.unsubscribe-rec.result c.unsubscribe-rec.new.self.seat.me.0) c.args.lane.now.side_key c.unsubscribe-rec.ensures.unsubscribes)).0;
}

pub returns : goal.returns
returns c = in-world c.args.lane.now c.unsubscribe-rec.new.self.seat.me.0 c.put.new.log c.put.new.numbers.list c.unsubscribe-rec.result 0 c.put.ensures.put c.put.ensures.spare (λ v. Unsubscribing c.args.sig (state_view c.args.lane.now) v (c.unsubscribe-rec.result.kind == 32)) c.unsubscribe-rec.new.self.words.now.shared.table_id (λ i. (c.unsubscribe-rec.ensures.same.0 i).now.shared.table_id)
    (unsubscribed c.args.lane.now c.unsubscribe-rec.new.self.seat.me.0 c.put.new.log c.put.new.numbers.list c.unsubscribe-rec.result 0 c.put.ensures.put c.put.ensures.spare c.args.sig (own-signal c.args.lane.now c.args.sig c.requires.signal) (own-object c.args.lane.now c.requires.serves) (c.unsubscribe-rec.result.kind == 32) refl (subst (λ k. SideUnsubscribes k c.args.lane.now.by c.args.sig c.args.lane.now.side.seat.me.0 c.unsubscribe-rec.result c.unsubscribe-rec.new.self.seat.me.0) c.args.lane.now.side_key c.unsubscribe-rec.ensures.unsubscribes)).1
