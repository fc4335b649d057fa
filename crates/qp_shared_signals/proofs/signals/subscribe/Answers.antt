use Rattle.std.proofs.Common.{◌==◌, refl, subst, ◌∙◌}
use Rattle.qp_calls.specs.Clauses.{Subscribing}
use Rattle.qp_side.specs.Calls.{SideSubscribes}
use Rattle.qp_shared_lane.specs.Lane.{state_view}
use Rattle.qp_shared_signals.proofs.Calling.{spare-is, side-room, side-object, side-serves, side-signal, own-signal, own-object, subscribe-plain, subscribed, in-world}
use Rattle.qp_shared_signals.proofs.signals.subscribe.Goals as goal

pub subscribe-rec-requires-clause-room : goal.subscribe-rec-requires-clause-room
subscribe-rec-requires-clause-room c = side-room c.args.lane.now c.requires.room

pub subscribe-rec-requires-clause-object : goal.subscribe-rec-requires-clause-object
subscribe-rec-requires-clause-object c = side-object c.args.lane.now c.requires.object

pub subscribe-rec-requires-clause-serves : goal.subscribe-rec-requires-clause-serves
subscribe-rec-requires-clause-serves c = side-serves c.args.lane.now c.requires.serves

pub subscribe-rec-requires-clause-signal : goal.subscribe-rec-requires-clause-signal
subscribe-rec-requires-clause-signal c = side-signal c.args.lane.now c.args.sig c.requires.signal

pub put-requires-clause-room : goal.put-requires-clause-room
put-requires-clause-room c = spare-is c.args.lane.now c.requires.room

pub put-requires-clause-plain : goal.put-requires-clause-plain
put-requires-clause-plain c = subscribe-plain c.args.lane.now.side.words.now.shared.key c.args.lane.now.by c.args.lane.now.side.seat.me.0 c.subscribe-rec.result c.subscribe-rec.new.self.seat.me.0 c.args.sig (c.subscribe-rec.result.kind == 31) c.subscribe-rec.ensures.subscribes

pub invariant_of-lane : goal.invariant_of-lane
invariant_of-lane c = record {
  own = c.args.lane.now.own;
  wide = c.args.lane.now.wide;
  key = c.args.lane.now.key;
  side_key = (λ i. (c.subscribe-rec.ensures.same.0 i).now.shared.key) ∙ c.args.lane.now.side_key;
  rings_key = c.args.lane.now.rings_key;
  ended = c.args.lane.now.ended;
  holds = (subscribed c.args.lane.now c.subscribe-rec.new.self.seat.me.0 c.put.new.log c.put.new.numbers.list c.subscribe-rec.result 1 c.put.ensures.put c.put.ensures.spare c.args.sig (own-signal c.args.lane.now c.args.sig c.requires.signal) (own-object c.args.lane.now c.requires.serves) (c.subscribe-rec.result.kind == 31) refl (subst (λ k. SideSubscribes k c.args.lane.now.by c.args.sig c.args.lane.now.side.seat.me.0 c.subscribe-rec.result c.subscribe-rec.new.self.seat.me.0) c.args.lane.now.side_key c.subscribe-rec.ensures.subscribes)).0;
}

pub returns : goal.returns
returns c = in-world c.args.lane.now c.subscribe-rec.new.self.seat.me.0 c.put.new.log c.put.new.numbers.list c.subscribe-rec.result 1 c.put.ensures.put c.put.ensures.spare (λ v. Subscribing c.args.sig (state_view c.args.lane.now) v (c.subscribe-rec.result.kind == 31)) c.subscribe-rec.new.self.words.now.shared.table_id (λ i. (c.subscribe-rec.ensures.same.0 i).now.shared.table_id)
    (subscribed c.args.lane.now c.subscribe-rec.new.self.seat.me.0 c.put.new.log c.put.new.numbers.list c.subscribe-rec.result 1 c.put.ensures.put c.put.ensures.spare c.args.sig (own-signal c.args.lane.now c.args.sig c.requires.signal) (own-object c.args.lane.now c.requires.serves) (c.subscribe-rec.result.kind == 31) refl (subst (λ k. SideSubscribes k c.args.lane.now.by c.args.sig c.args.lane.now.side.seat.me.0 c.subscribe-rec.result c.subscribe-rec.new.self.seat.me.0) c.args.lane.now.side_key c.subscribe-rec.ensures.subscribes)).1
